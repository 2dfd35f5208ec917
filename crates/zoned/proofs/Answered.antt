-- Answers in the one thing that bytes spell.
use Rattle.std.proofs.Common.{Err, Ok, Result, inl, ◌⊎◌}
use Rattle.tz_base.specs.{declared.error.Error.{Error, TheVariants.{OutOfMemory}}, Errors.{IsOutOfMemory}}
use Rattle.tz_file.specs.FilePieces.{FilePieces, HasPieces}
use Rattle.tz_info.specs.{PosixZones.{IsPosixFault, IsPosixZone}, TzFiles.{In_file, IsFileFault, IsZoneFault, No_memory}}
use Rattle.zoned.proofs.Words.{List, Zone, arith, inr, refl, subst, ℕ, ◌≡◌}
use Rattle.zoned.specs.Headline.{IsAnswerOf}
use Rattle.tz_base.specs.declared.error.Error.TheVariants as errors

module _ {Z A : Type 0} (spells : Z → Type 0) (fault : Error → Type 0) (answers : Z → A → Type 0) (whole : Type 0)
    (one : (y z : Z) → spells y → spells z → y ≡ z) (one_fault : (d e : Error) → fault d → fault e → d ≡ e)
    (not_both : (z : Z) (e : Error) → spells z → ¬ (fault e)) where
  pub answered : (z : Z) (a : A) → spells z → answers z a → IsAnswerOf spells fault answers whole (Ok a)
  answered z a s h = record {
    one = one;
    one_fault = one_fault;
    not_both = not_both;
    answered = (z, s, h);
    refused = tt;
    spelled = λ y t. subst (λ k. answers k a) (one z y s t) h;
    faulty = λ e f. not_both z e s f;
  }

  pub refused : (e : Error) → (fault e ⊎ ((e ≡ OutOfMemory) × whole)) → IsAnswerOf spells fault answers whole (Err e)
  refused e h = record {
    one = one;
    one_fault = one_fault;
    not_both = not_both;
    answered = tt;
    refused = h;
    spelled = λ z s. elim h [ inl f ↦ absurd (not_both z e s f) | inr m ↦ m.0 ];
    faulty = λ d f. tt;
  }

pub of_file_fault : (bytes : List ℕ) (e : Error) → IsZoneFault bytes e → IsFileFault bytes e ⊎ ((e ≡ OutOfMemory) × ((p : FilePieces) × HasPieces bytes p))
of_file_fault bytes _ (In_file e f) = inl f
of_file_fault bytes _ (No_memory p h) = inr (refl, (p, h))

no_memory : (e : Error) → IsOutOfMemory e → e ≡ OutOfMemory
no_memory errors.OutOfMemory h = refl
no_memory (errors.DateTime _) h = absurd (omega arith)
no_memory (errors.FindLocalTimeType _) h = absurd (omega arith)
no_memory (errors.LocalTimeType _) h = absurd (omega arith)
no_memory (errors.InvalidSlice _) h = absurd (omega arith)
no_memory (errors.InvalidTzFile _) h = absurd (omega arith)
no_memory (errors.InvalidTzString _) h = absurd (omega arith)
no_memory (errors.UnexpectedEnd _) h = absurd (omega arith)
no_memory (errors.MissingTag _) h = absurd (omega arith)
no_memory (errors.OutOfRange _) h = absurd (omega arith)
no_memory (errors.ParseInt _) h = absurd (omega arith)
no_memory (errors.ProjectDateTime _) h = absurd (omega arith)
no_memory (errors.TimeZone _) h = absurd (omega arith)
no_memory (errors.TransitionRule _) h = absurd (omega arith)
no_memory (errors.UnsupportedTzFile _) h = absurd (omega arith)
no_memory (errors.UnsupportedTzString _) h = absurd (omega arith)
no_memory (errors.Utf8 _) h = absurd (omega arith)

pub of_text_fault : (text : List ℕ) (e : Error) → IsOutOfMemory e ⊎ IsPosixFault text e → (IsOutOfMemory e → (z : Zone) × IsPosixZone text z)
    → IsPosixFault text e ⊎ ((e ≡ OutOfMemory) × ((z : Zone) × IsPosixZone text z))
of_text_fault text e (inl m) memory = inr (no_memory e m, memory m)
of_text_fault text e (inr f) memory = inl f
