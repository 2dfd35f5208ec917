use Rattle.tz_search.proofs.{SearchSteps.{marked_more, time_read}, Words.{arith, item_time, length-set, linear, map, stretch_of, to_z-of_z, ◌/◌, ◌^◌, ◌≡◌}}
use Rattle.tz_search.proofs.timeline.hints.mark.Given.{Over}
use Rattle.tz_search.proofs.timeline.hints.mark.Goals as goal

pub seconds_between-requires : goal.seconds_between-requires
seconds_between-requires g c =
    grind (linear, c.ranges.first, c.requires.first c.loop-place.place, time_read)

-- the stretch of the item, which has a slot after it
slot : (g : Over) (c : goal.After-seconds_between g)
    → c.seconds_between.result / 2 ^ c.args.shift ≡ stretch_of c.args.first (item_time (map g.T.Timed.time c.args.items.now) c.loop-place.place) c.args.shift
slot g c =
    grind (linear, to_z-of_z, time_read)

pub overflow_add-places : goal.overflow_add-places
overflow_add-places g c = omega (arith, slot g c, c.requires.room c.loop-place.place c.loop-place-test.true)

pub offset_bounds-places-stretch : goal.offset_bounds-places-stretch
offset_bounds-places-stretch g c = omega (arith, slot g c, c.requires.room c.loop-place.place c.loop-place-test.true)

pub bounds-places-stretch : goal.bounds-places-stretch
bounds-places-stretch g c = omega (arith, slot g c, c.requires.room c.loop-place.place c.loop-place-test.true)

pub loop-place-preserved : goal.loop-place-preserved
loop-place-preserved g c = grind (arith, to_z-of_z, marked_more, slot, length-set)
