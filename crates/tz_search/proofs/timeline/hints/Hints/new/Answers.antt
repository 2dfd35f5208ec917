use Rattle.tz_search.proofs.{
  SearchSteps.{first_least, hints_made, marks_rise, slots},
  Words.{List, SFits, arith, drop, length, length-map, length-replicate, linear, map, rules, take, take-append-le, take_all, to_z-of_z, w64, ℕ, ◌++◌, ◌+◌},
  Words.{◌/◌, ◌^◌, ◌≡◌},
}
use Rattle.tz_search.proofs.timeline.hints.Hints.new.Goals as goal

pub mark-requires-clause-first : goal.mark-requires-clause-first
mark-requires-clause-first g c = λ k h. grind (linear, to_z-of_z, first_least, length-map)

pub mark-requires-clause-room : goal.mark-requires-clause-room
mark-requires-clause-room g c = λ k h. grind (linear, to_z-of_z, slots, length-map, length-replicate)

pub raise-requires : goal.raise-requires
raise-requires g c =
    let ff : SFits w64 c.args.ends.first = search rules in
    let long = length-map c.args.items.now g.T.Timed.time in
    marks_rise (map g.T.Timed.time c.args.items.now) c.args.ends.first c.shift_for-shift.result c.mark.new.places c.requires.ordered
    (grind arith) (rw long (simp to_z-of_z at c.mark.ensures.marked))

pub returns-then-most-count : goal.returns-then-most-count
returns-then-most-count g c = c.none-then-most-count.ensures _

-- what a slice of all numbers was written to
written : (len : ℕ) (new old : List ℕ) → length new ≡ len → take len (new ++ drop (length new) old) ≡ new
written len new old e = grind (arith, take-append-le, take_all)

pub returns : goal.returns
returns g c =
    let ff : SFits w64 c.args.ends.first = search rules in
    let long = length-map c.args.items.now g.T.Timed.time in
    let zeros : length c.deref_mut-numbers.result.now ≡ c.seconds_between-span.result / 2 ^ c.shift_for-shift.result + 2 = grind (arith, length-replicate) in
    let m = simp to_z-of_z at c.mark.ensures in
    let same = m.length in
    let count = c.raise.ensures.count in
    let own = written c.in_ok-places.places.len c.raise.new.numbers c.in_ok-places.places.items (grind arith) in
    hints_made _ _ c.args.ends.first c.seconds_between-span.result c.most_between-most.result c.mark.new.places c.requires.ordered (omega arith)
    c.shift_for-shift.ensures.shift (grind arith) (grind (linear, to_z-of_z)) (omega arith) (rw long m.marked) (rw own c.raise.ensures)
    (rw own c.most_between-most.ensures) (omega arith)
