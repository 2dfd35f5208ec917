-- Each call's values are those that the caller allows.
use Rattle.offset_core.proofs.local_result.LocalResult.map.Goals as goal

pub f-one-requires : goal.f-one-requires
f-one-requires g c = c.requires.first _ _ c.in-Ambiguous.is
