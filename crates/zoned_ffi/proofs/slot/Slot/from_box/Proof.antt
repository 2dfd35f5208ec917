-- `from_box` takes the box apart, and keeps both parts.
use Rattle.core.proofs.alloc.Calls.{Goes-blank, handle_tells}
use Rattle.std_alloc.proofs.{BoxSteps.Steps.{box_in, box_out}, boxed.Box.into_raw_with_allocator.Met.{met}}
use Rattle.zoned_ffi.proofs.Words.{List, Ptr, RattleType, RawPtr, SProp, Stays, Tuple, Val, WpFn, a_type, agg, alloc_all, and_then, ap, await, block_ptr}
use Rattle.zoned_ffi.proofs.Words.{bounded, by, calls_at, dcons, dnil, emp, enter, fact, fact_i, feq_l, fjoin, fld, flft, fpick, framed, free_all, fsep, fsplit}
use Rattle.zoned_ffi.proofs.Words.{fst∗, ftrue, get, get_in, heard, id⊢, in_a_block, inst_fn, join, keep, lands_as, later, layout, leaves, look_at, move, never}
use Rattle.zoned_ffi.proofs.Words.{no, no_more, nothing, null_ptr, of_list, of_opd, only, owns, param, param_laws, pass_all, pick, plain, proved_at, ptr_val}
use Rattle.zoned_ffi.proofs.Words.{qed, raw, refl, returns, rewrite, sem, sets, some, split, split3, stay_dropped, stop, sub, suffices, tables, triple_of}
use Rattle.zoned_ffi.proofs.{Words.{types_at, use0, use1, vptr, vstruct, walk_of, whole, !, [], ‵, ◌$◌, ◌++◌, ◌∙◌, ◌∵◌, ◌∷◌, ◌≡◌, ◌⊛◌}, Slots.{block, same_run}}
use Rattle.zoned_ffi.proofs.{Slots.{slot_fits, slot_in, two}, slot.Slot.from_box.Statement.{statement}}
use mir.Raw.{raw as bare}
use types.Kit.{drop}
use Rattle.std_alloc.proofs.BoxSteps.Form as box
use Rattle.std_alloc.specs.contracts.boxed.Box.into_raw_with_allocator as taken
use Rattle.zoned_ffi.specs.contracts.slot.Slot.from_box as f
use Rattle.zoned_ffi.proofs.slot.Slot.from_box.Code as code

pub from_box_spec : {M : Type 1} → statement M
from_box_spec 𝓤 𝓛 𝓜 𝓡 wired T A L LA g d dx dd allocator glue glued =
    let H = 𝓛.H in let 𝓣 = tables 𝓤 H 𝓜 𝓡 𝓡.env in
    let R : RattleType = param 0 T in let Z : RattleType = param 1 A in let LZ = param_laws 1 A LA in
    let En = f.ended T A g d dx dd in let c = f.clauses T A g d dx dd 𝓛 𝓜.mem 𝓡.returns in
    let bounds = bounded (a_type ∷ a_type ∷ []) (T, (A, tt)) (dcons d (dcons dx (dcons dd dnil))) in let fn = inst_fn bounds code.function in
    let B : box.Bx = record { row = T; laws = L; al = record { row = A; laws = LA; g = g; d = d; drops = dd } } in let Pair = Tuple (RawPtr ∷ Z ∷ []) in
    let stays : Stays En.signature.params En.kept = (stay_dropped (plain (λ _. box.B B)) no, tt) in
    proved_at 𝓛 En stays c 𝓜 𝓡 (Goes-blank 𝓛 2 (plain (λ _. box.B B)) no (λ κs x l. tt), tt) (f.Key.name bounds) fn
    (code.unfolded 𝓤 H 𝓜 𝓡 wired (T, (A, tt)) d dx dd) (λ z are.
    let κs = z.0.0 in let qs = z.0.1 in let boxed = z.0.3.0 in let a = boxed.alloc in let x = boxed.value in
    let Post : Val → SProp 𝓤 = (walk_of 𝓛 En stays c).post z in let Run : List Val → SProp 𝓤 = λ ws. WpFn 𝓤 H 𝓣.C 𝓣.Λ fn ws Post in
    let alive = ‵ (flft κs.0 qs.0) ⊛ ‵ (flft κs.1.0 qs.1.0) ⊛ ‵ ftrue in
    qed 𝓛 ((alive ⊛ ‵ (owns (types_at En.signature.params κs) z.0.3 z.0.4)) ∷ raw ((c κs z.0.3).requires z.1) ∷ []) ∵ split ! $ move ! (1 ∷ []) $ fsplit ! $
    box_out B ! boxed z.0.4.0 (λ b o h at ws fits. box_in B ! boxed b o x at refl $
    let w : Val = box.word B h b o in let typed = slot_fits R Z LZ g b o h fits in
    let k = triple_of 𝓛 (taken.signature T A g d dd dx) (taken.spec T A g d dd dx 𝓛 𝓜.mem 𝓡.returns) in
    let y : k.Ghost = ((κs, qs, tt, (boxed, tt), (w ∷ [], tt)), tt) in
    fjoin ! $ move ! (1 ∷ 0 ∷ []) $ join ! $ join ! $ use1 𝓛 (raw (k.pre y)) (id⊢ 𝓤 _) $
    suffices ! (Run (w ∷ [])) (same_run 𝓤 Run (λ i. ws i ++ [])) $
    enter ! 𝓣.C 𝓣.Λ fn (w ∷ []) Post $ alloc_all ! (λ l. pass_all ! refl (typed, tt) $ sets ! (of_opd ! (get ! refl)) refl typed $
    calls_at ! (framed 𝓤 H 𝓜 𝓣) k (met 𝓤 𝓛 𝓜 𝓡 (code.calls-std_alloc::boxed::Box::into_raw_with_allocator 𝓡.env wired) T A L LA g d dd dx allocator glued glue)
    y (and_then ! (get ! refl) (no_more !)) (λ u.
    use1 𝓛
    (later
    (some (λ (r : Ptr × A.Denot). (alive ⊛ ‵ (Pair.own_val r (u ∷ []))) ⊛ some
    (λ (_ : (Unit {0} × (Unit {0} × Unit {0})) × Unit {0}).
    ‵ (fsep (fsep ftrue (fsep ftrue ftrue)) ftrue) ⊛ (raw (fact 𝓤 (r.1 ≡ a)) ⊛ ‵ (block R Z LZ g a r.0 x)))))) (id⊢ 𝓤 _) $
    await ! tt $ pick ! (λ r. split ! $ move ! (1 ∷ []) $ pick ! (λ _. split3 ! $ drop ! $ heard ! (r.1 ≡ a) (λ same.
    in_a_block ! r.0 (λ p. block R Z LZ g a p x) (fst∗ 𝓤 (never 𝓤) (sem 𝓛 (g.dealloc_token a (bare (layout T)) null_ptr))) (λ b' o' e.
    move ! (1 ∷ []) $ split ! $ move ! (1 ∷ []) $ fpick ! (λ parts. fsplit ! $ feq_l ! (λ pair. fsplit ! $ feq_l ! (λ pointer. fsplit ! $
    rewrite ! 0 (λ (s : A.Denot). ‵ (A.own_val s parts.1.0)) same refl $ handle_tells B.al ! a parts.1.0 (λ h' alone fits'.
    let made = slot_fits R Z LZ g b' o' h' fits' in
    lands_as ! (ap only (pair ∙ (λ j. vstruct (of_list ((pointer ∙ ap (λ (p : Ptr). ptr_val p ∷ []) e) j ++ (alone j ++ []))) ∷ []))) refl made $
    sets ! (of_opd ! (get_in ! (fld ! refl (stop !)) (sub ! 0 refl (whole !)))) refl (tt, tt) $ sets !
    (of_opd ! (get_in ! (fld ! refl (stop !)) (sub ! 1 refl (whole !)))) refl fits' $
    sets ! (agg ! (and_then ! (get ! refl) (and_then ! (get ! refl) (no_more !)))) refl made $
    move ! (3 ∷ 0 ∷ []) $ slot_in R Z LZ g ! b' o' h' a x $
    use0 𝓛 (raw (fact 𝓤 (x ≡ x))) (fact_i 𝓤 (x ≡ x) (emp 𝓤) refl) $ nothing ! $ nothing ! $ fjoin ! $
    returns ! (look_at ! 0 refl) $ free_all ! refl $ keep ! (4 ∷ 0 ∷ 2 ∷ 1 ∷ []) $
    by ! (leaves 𝓛 En stays c z (two (vptr b' o') h') (record { at = block_ptr b' o'; alloc = a; value = x }) ((tt, (tt, tt)), tt) (tt, tt))))))))))))))
