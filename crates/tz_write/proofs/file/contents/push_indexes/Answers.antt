use Rattle.tz_write.proofs.{FileWritten.flat_map_next, Words.{arith, index_bytes}}
use Rattle.tz_write.proofs.file.contents.push_indexes.Goals as goal

pub overflow_cast-index : goal.overflow_cast-index
overflow_cast-index c =
    let is = c.transition-index.ensures c.transition-index.result in
    let fits = c.requires c.loop-place.place c.transition-index.result (grind arith) in grind arith

pub loop-place-preserved : goal.loop-place-preserved
loop-place-preserved c =
    flat_map_next _ _ (grind arith) (c.transition-index.ensures c.transition-index.result) index_bytes _
    c.loop-place.invariant c.in_ok-extend_from_slice.ensures.items
