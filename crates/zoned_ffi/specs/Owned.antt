-- What a handle owns: nothing if it is null, and else the block at its pointer, which holds a share of a zone.
-- What a handle that is only read has: nothing if it is null, and else some part of the token of a lifetime for which what lies at
-- its pointer is lent. Parts can be parted again, so any number of readers have one, and the lifetime ends once all are back.
use base.Fml.{Fml, Share, ftrue, fex, fsep, flft}
use denote.RattleType.{RattleType}
use denote.RawPtr.{Ptr, null_ptr, Testable}
use denote.Struct.Lending.{lent_at}
use Rattle.std.specs.{Prelude.{◌≡◌, ℕ, [], ◌∷◌}, Box.Ownership.{box_owns}, contracts.impls.GlobalAllocator.TheImpl.{ghosts}, declared.alloc.Global.{Global}}
use Rattle.std.specs.declared.option.Option.{Option, TheVariants.{None, Some}}
use Rattle.std.specs.contracts.alloc.Global as heap
use Rattle.std.specs.contracts.sync.Arc as arc
use Rattle.tz_info.specs.contracts.zone.time_zone.TimeZone as zone

-- a share of a zone, as it lies in memory
abbrev pub shared_row : RattleType
shared_row = arc.the_row zone.the_row heap.the_row ghosts

module _ (R : RattleType) (a : Global) where
  abbrev pub boxed : Ptr → R.Denot → Fml
  boxed = box_owns (ghosts.dealloc_token a) R

  abbrev pub held : Ptr → Option R.Denot → Fml
  held p None = fex (p ≡ null_ptr) (λ _. ftrue)
  held p (Some x) = boxed p x

module _ (R : RattleType) (life : ℕ) (p : Ptr) where
  abbrev pub loan : R.Denot → Share → Fml
  loan x part = fsep (flft (life ∷ []) part) (lent_at R p x (life ∷ []))

  abbrev pub lent : Option R.Denot → Fml
  lent None = fex (p ≡ null_ptr) (λ _. ftrue)
  lent (Some x) = fex (Testable p) (λ _. fex Share (loan x))
