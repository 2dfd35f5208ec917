use Rattle.tz_info.proofs.{EntryLaws.{all_come, kept_all, never_come, turned}, Fits.fits, Words.{SFits, arith, length, linear, rules, w64, zone_in, ◌<◌}}
use Rattle.tz_info.proofs.zone.made.change_list.entries_of.Goals as goal

pub returns-in_default : goal.returns-in_default
returns-in_default c =
    let fs = c.second.type_inv in
    never_come (zone_in c.args.lists) _ _ _ c.requires c.loop-place.invariant.made c.index-lists-place.result (omega arith) c.index-lists-place.is
    (rw (c.second.ensures, ← c.index-lists-place.is) at (simp fits at c.in_default.ensures)) (grind arith)

pub add-requires-clause-named : goal.add-requires-clause-named
add-requires-clause-named c = kept_all (λ t. t.type_index < length c.args.lists.types.now) _ _ _ c.drop_at.ensures.before c.loop-place.invariant.made.indexes

pub loop-place-preserved : goal.loop-place-preserved
loop-place-preserved c =
    let ft : SFits w64 c.in-Some.start = search rules in
    let at = rw (← c.index-lists-place.is) at (simp fits at c.at.ensures) in
    record {
      made = turned (zone_in c.args.lists) c.loop-place.entries.items c.drop_at.new.entries.items _ c.loop-place.place c.in-Some.start
          c.index-lists-place.result (grind (linear, fits));
      count = grind arith;
      room = grind arith;
    }

pub returns : goal.returns
returns c =
    all_come (zone_in c.args.lists) _ c.loop-place.place _ c.requires c.loop-place.invariant.made (omega arith) (grind arith)
