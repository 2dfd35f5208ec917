use Rattle.tz_info.proofs.{Fits.fits, SeasonLaws.gap_at, Words.{ap, refl, ◌∙◌}}
use Rattle.tz_info.proofs.rule.alternate.AlternateTime.gap_in.Goals as goal

pub returns : goal.returns
returns c = λ from h never.
    let fs = c.offset.type_inv in
    let fd = c.offset-2.type_inv in
    let ft = c.moment.type_inv in
    let gap = gap_at _ _ from _ _ c.std.ensures.rule c.requires (rw (
      c.offset.ensures.value ∙ ap
          (λ t. t.offset) c.std.ensures.value,
      c.offset-2.ensures.value ∙ ap (λ t. t.offset) c.dst.ensures.value,
    ) refl) h never in
    rw (c.change_of.ensures.at, c.change_of.ensures.before, c.change_of.ensures.after) (simp fits (rw (simp fits at c.moment.ensures) gap))
