-- `into_box` takes the slot apart, and makes the box of its parts.
use Rattle.core.proofs.{alloc.{Calls.{Goes-blank}, Shapes.{after}}, cell.Inside.{Good}}
use Rattle.std_alloc.proofs.{BoxSteps.Steps.{box_in, box_out}, boxed.Box.from_raw.Met.{met}}
use Rattle.zoned_ffi.proofs.Words.{Lasts, List, RattleType, SProp, Stays, Val, WpFn, a_type, alloc_all, and_then, ap, at_ret, await, block_ptr, blocks, bounded}
use Rattle.zoned_ffi.proofs.Words.{by, calls_at_last, dcons, dnil, enter, env, exec, fact, feq_i, first, fjoin, fld, flft, framed, free_all, fsplit, ftrue, get}
use Rattle.zoned_ffi.proofs.Words.{get_in, id⊢, inst_fn, join, keep, lands_last, lasts, later, layout, leaves, look_at, move, no, no_more, nothing, of_opd}
use Rattle.zoned_ffi.proofs.Words.{only, owns, param, param_laws, pass_all, pick, plain, proved_at, qed, raw, refl, returns, rewrite, sets, some, split, split3}
use Rattle.zoned_ffi.proofs.Words.{stay_dropped, stop, sub, subst, suffices, sym, tables, triple_of, types_at, use1, vptr, walk_of, whole, !, [], ‵, ◌$◌, ◌++◌}
use Rattle.zoned_ffi.proofs.{Words.{◌∵◌, ◌∷◌, ◌≡◌, ◌⊑◌, ◌⊛◌}, Slots.{Slot, same_run, slot_fits, slot_out, two}, slot.Slot.into_box.Statement.{statement}}
use types.Kit.{drop}
use Rattle.std_alloc.proofs.BoxSteps.Form as box
use Rattle.std_alloc.specs.contracts.boxed.Box.from_raw as made
use Rattle.zoned_ffi.specs.contracts.slot.Slot.into_box as f
use Rattle.zoned_ffi.proofs.slot.Slot.into_box.Code as code

pub into_box_spec : {M : Type 1} → statement M
into_box_spec 𝓤 𝓛 𝓜 𝓡 wired T A L LA g d dx dd allocator glue glued =
    let H = 𝓛.H in let 𝓣 = tables 𝓤 H 𝓜 𝓡 𝓡.env in
    let R : RattleType = param 0 T in let Z : RattleType = param 1 A in let LZ = param_laws 1 A LA in let S : RattleType = Slot R Z LZ g in
    let En = f.ended T A g d dx dd in let c = f.clauses T A g d dx dd 𝓛 𝓜.mem 𝓡.returns in
    let bounds = bounded (a_type ∷ a_type ∷ []) (T, (A, tt)) (dcons d (dcons dx (dcons dd dnil))) in let fn = inst_fn bounds code.function in
    let form : box.Bx = record { row = T; laws = L; al = record { row = A; laws = LA; g = g; d = d; drops = dd } } in let B : RattleType = box.B form in
    let stays : Stays En.signature.params En.kept = (stay_dropped (plain (λ _. S)) no, tt) in
    proved_at 𝓛 En stays c 𝓜 𝓡 (Goes-blank 𝓛 2 (plain (λ _. S)) no (λ κs x l. tt), tt) (f.Key.name bounds) fn
    (code.unfolded 𝓤 H 𝓜 𝓡 wired (T, (A, tt)) d dx dd) (λ z are.
    let κs = z.0.0 in let qs = z.0.1 in let slot = z.0.3.0 in let a = slot.alloc in let x = slot.value in
    let Post : Val → SProp 𝓤 = (walk_of 𝓛 En stays c).post z in let Run : List Val → SProp 𝓤 = λ ws. WpFn 𝓤 H 𝓣.C 𝓣.Λ fn ws Post in
    let alive = ‵ (flft κs.0 qs.0) ⊛ ‵ (flft κs.1.0 qs.1.0) ⊛ ‵ ftrue in
    qed 𝓛 ((alive ⊛ ‵ (owns (types_at En.signature.params κs) z.0.3 z.0.4)) ∷ raw ((c κs z.0.3).requires z.1) ∷ []) ∵ split ! $ move ! (1 ∷ []) $ fsplit ! $
    slot_out R Z LZ g ! slot z.0.4.0 (λ b o h at ws fits.
    let w : Val = two (vptr b o) h in let typed = slot_fits R Z LZ g b o h fits in
    let k = triple_of 𝓛 (made.signature T A g d dd) (made.spec T A g d dd 𝓛 𝓜.mem 𝓡.returns) in
    let y : k.Ghost = ((κs, qs, tt, (a, (block_ptr b o, tt)), (h ∷ [], (vptr b o ∷ [], tt))), x) in
    -- [what the parameters' lifetimes outlive; the block; the allocator; the tokens]
    move ! (4 ∷ []) $ use1 𝓛 (raw (fact 𝓤 (κs.0 ⊑ T.lives)) ⊛ raw (fact 𝓤 (κs.1.0 ⊑ A.lives)) ⊛ ‵ ftrue) (id⊢ 𝓤 _) $ split3 ! $ move ! (2 ∷ []) $ drop ! $ move
    ! (1 ∷ 2 ∷ []) $ join ! $ move ! (1 ∷ 0 ∷ []) $ join ! $
    move ! (2 ∷ []) $ feq_i ! (List Val) (vptr b o ∷ []) (vptr b o ∷ []) refl $ fjoin ! $ move ! (2 ∷ 0 ∷ []) $ fjoin ! $ move ! (2 ∷ 0 ∷ []) $ join ! $ join !
    $ use1 𝓛 (raw (k.pre y)) (id⊢ 𝓤 _) $
    suffices ! (Run (w ∷ [])) (same_run 𝓤 Run (λ i. ws i ++ [])) $
    enter ! 𝓣.C 𝓣.Λ fn (w ∷ []) Post $ alloc_all ! (λ l. pass_all ! refl (typed, tt) $ let locals = env fn.locals l in
    sets ! (of_opd ! (get_in ! (fld ! refl (stop !)) (sub ! 0 refl (whole !)))) refl (tt, tt) $ sets !
    (of_opd ! (get_in ! (fld ! refl (stop !)) (sub ! 1 refl (whole !)))) refl fits $
    first ! $ blocks ! $ sets ! (of_opd ! (get ! refl)) refl fits $
    calls_at_last ! (framed 𝓤 H 𝓜 𝓣) k (met 𝓤 𝓛 𝓜 𝓡 (code.calls-std_alloc::boxed::Box::from_raw 𝓡.env wired) T A L LA g d dd allocator glued) y
    (and_then ! (get ! refl) (and_then ! (get ! refl) (no_more !))) (λ u.
    use1 𝓛
    (later
    (some (λ (r : B.Denot). (alive ⊛ ‵ (B.own_val r (u ∷ []))) ⊛ some
    (λ (ls : Lasts (made.ended T A g d dd) κs y.0.3). ‵ (lasts (made.ended T A g d dd) κs y.0.3 ls) ⊛
    (raw (fact 𝓤 (r.value ≡ x)) ⊛ raw (fact 𝓤 (r.alloc ≡ a))))))) (id⊢ 𝓤 (k.post y u)) $
    await ! tt $ pick ! (λ r. split ! $ move ! (1 ∷ []) $ pick ! (λ _. split3 ! $ drop ! $ move ! (2 ∷ []) $ split ! $ move ! (1 ∷ []) $
    box_out form ! r (u ∷ [])
    (λ b' o' h' at' us fits'. box_in form ! r b' o' r.value at' refl $ rewrite ! 0 (λ (xs : List Val). ‵ (B.own_val r xs)) (sym us) refl $
    let good : Good (layout B) u = subst (Good (layout B)) (sym (ap only us)) (slot_fits R Z LZ g b' o' h' fits') in
    lands_last ! refl good $ exec ! 𝓣.C 𝓣.Λ locals (after 3 fn.body) (at_ret locals Post) $ sets ! (of_opd ! (get ! refl)) refl good $
    nothing ! $ nothing ! $ fjoin ! $
    returns ! (look_at ! 0 refl) $ free_all ! refl $ keep ! (2 ∷ 0 ∷ 1 ∷ 3 ∷ []) $ by ! (leaves 𝓛 En stays c z u r ((tt, (tt, tt)), tt) (tt, tt)))))))))
