-- Each day of a series has one instant, or one error.
use Rattle.std.proofs.Common.{◌≡◌, ◌∙◌, sym, ap, ℕ}
use Rattle.zoned_time.specs.{Zone.{Meaning, Law}, Zoned.{Zoned}}
use Rattle.zoned_time.proofs.ForCallers.{not_resolved, unresolved_once}
use Rattle.zoned_series.specs.{Series.{Series, reading_of, IsItem, IsMissing, out_of_range, unresolved}, declared.series_error.SeriesError.{SeriesError}}
use Rattle.zoned_series.specs.declared.series_error.SeriesError.TheVariants.{Resolve}

-- item n of a series in a zone with that law
module _ {Z O : Type 0} {m : Meaning O} (law : Law m) (s : Series Z) (n : ℕ) where
  pub missing_once : (e f : SeriesError) → IsMissing law s n e → IsMissing law s n f → e ≡ f
  missing_once e f (out_of_range out is) (out_of_range other too) = is ∙ sym too
  missing_once e f (out_of_range out is) (unresolved cause day why too) = absurd (out day)
  missing_once e f (unresolved cause day why is) (out_of_range out too) = absurd (out day)
  missing_once e f (unresolved cause day why is) (unresolved other there also too) =
      is ∙ ap Resolve (unresolved_once law.off (reading_of s n).s s.choice cause other why also) ∙ sym too

  pub not_item : (d : Zoned O) (e : SeriesError) → IsItem law s n d → IsMissing law s n e → ⊥
  not_item d e h (out_of_range out is) = out h.day
  not_item d e h (unresolved cause day why is) = not_resolved law (reading_of s n) s.choice d cause h.resolved why
