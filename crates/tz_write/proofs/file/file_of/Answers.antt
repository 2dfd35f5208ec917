use Rattle.tz_write.proofs.FileWritten.{written_is}
use Rattle.tz_write.proofs.file.file_of.Goals as goal

pub returns : goal.returns
returns c =
    let is = rw c.as_bytes.ensures.value at c.in_ok-bytes.ensures.bytes in
    let room = c.requires.room in
    rw is (written_is _ c.in_ok-bytes.ensures.valid.some c.in_ok-bytes.ensures.rule c.in_ok-bytes.ensures.sound _ _ _
    room.counts (room.places, room.laid, room.shortest) c.requires.footer)
