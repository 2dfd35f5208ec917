-- `into_slot` tests the pointer, and gives the slot back if there is one.
use Rattle.std.specs.{contracts.impls.GlobalAllocator.TheImpl.{ghosts}, declared.option.Option.TheVariants.{None, Some}}
use Rattle.zoned_ffi.proofs.Words.{Goes-dropped, Good, List, Ptr, RattleType, SProp, Some-of, Stays, Val, WpFn, after, agg, alloc_all, and_then, and_tt, ap}
use Rattle.zoned_ffi.proofs.Words.{at_ret, bin, block_ptr, branches, by, emp, enter, env, exec, fact, fact_i, first, fjoin, fld, free_all, fsep, fsplit, ftrue}
use Rattle.zoned_ffi.proofs.Words.{get, get_in, keep, layout, leaves, lit, lit<, live, look_at, move, no_more, none_of, nothing, null_ptr, of_opd, pass_all}
use Rattle.zoned_ffi.proofs.Words.{plain, proved_at, ptr_val, qed, raw, refl, returns, sets, sets_last, split, stay_dropped, stop, sub, suffices, tables}
use Rattle.zoned_ffi.proofs.Words.{tests_null, type_at, use0, use1, vcons, vnil, vptr, walk_of, whole, yes, !, [], ‵, ◌$◌, ◌++◌, ◌∙◌, ◌∵◌, ◌∷◌, ◌≡◌, ◌⊛◌}
use Rattle.zoned_ffi.proofs.{Handles.{Hd, LZ, R, Z, handle_out, null_fits, null_fits_word, null_or_block}, Slots.{Slot, same_run, slot_fits, slot_in, two}}
use Rattle.zoned_ffi.proofs.handle.Handle.into_slot.Statement.{statement}
use Rattle.zoned_ffi.specs.contracts.handle.Handle.into_slot as f
use Rattle.zoned_ffi.proofs.handle.Handle.into_slot.Code as code

pub into_slot_spec : {M : Type 1} → statement M
into_slot_spec 𝓤 𝓛 𝓜 𝓡 wired =
    let H = 𝓛.H in let 𝓣 = tables 𝓤 H 𝓜 𝓡 𝓡.env in let c = f.clauses 𝓛 𝓜.mem 𝓡.returns in let fn = code.function in
    let Sl : RattleType = Slot R Z LZ ghosts in let stays : Stays f.ended.signature.params f.ended.kept = (stay_dropped (plain (λ _. Hd)) yes, tt) in
    proved_at 𝓛 f.ended stays c 𝓜 𝓡 (Goes-dropped 𝓛 0 (plain (λ _. Hd)) yes (λ κs x l. refl), tt) f.Key.name fn (code.unfolded 𝓤 H 𝓜 𝓡 wired) (λ z are.
    let v = z.0.3.0 in let a = v.alloc in let Post : Val → SProp 𝓤 = (walk_of 𝓛 f.ended stays c).post z in
    let Run : List Val → SProp 𝓤 = λ ws. WpFn 𝓤 H 𝓣.C 𝓣.Λ fn ws Post in let Out : RattleType = type_at f.ended.signature.result z.0.0 in
    qed 𝓛 ((‵ ftrue ⊛ ‵ (fsep (Hd.own_val v z.0.4.0) ftrue)) ∷ ‵ ftrue ∷ []) ∵ split ! $ move ! (1 ∷ []) $ fsplit ! $
    handle_out ! v z.0.4.0 (λ h ws fits. null_or_block ! a v.at v.shared
    (λ e none. let w : Val = two (ptr_val null_ptr) h in let typed = null_fits h fits in
    let is : z.0.4.0 ≡ w ∷ [] = ws ∙ ap (λ (p : Ptr). two (ptr_val p) h ∷ []) e in
    suffices ! (Run (w ∷ [])) (same_run 𝓤 Run (λ i. is i ++ [])) $
    enter ! 𝓣.C 𝓣.Λ fn (w ∷ []) Post $ alloc_all ! (λ l. pass_all ! refl (typed, tt) $ let Ev = env fn.locals l in
    sets ! (of_opd ! (get_in ! (fld ! refl (stop !)) (sub ! 0 refl (whole !)))) refl (tt, null_fits_word) $
    sets ! (of_opd ! (get_in ! (fld ! refl (stop !)) (sub ! 1 refl (whole !)))) refl fits $
    sets ! (bin ! (get ! refl) (lit ! tt) tt) refl (tt, tt) $
    first ! $ branches ! (get ! refl)
    (λ _. sets_last ! (agg ! (and_then ! (lit ! tt) (no_more !))) refl (tt, (record { fits = lit< tt }, tt)) $
    exec ! 𝓣.C 𝓣.Λ Ev (after 4 fn.body) (at_ret Ev Post) $ sets ! (of_opd ! (get ! refl)) refl (tt, (record { fits = lit< tt }, tt)) $
    use0 𝓛 (‵ (Out.own_val None (live 0 vnil ∷ []))) (none_of 𝓛 Sl) $
    use0 𝓛 (raw (fact 𝓤 (v.shared ≡ None))) (fact_i 𝓤 (v.shared ≡ None) (emp 𝓤) none) $ nothing ! $ nothing ! $ nothing ! $ fjoin ! $
    returns ! (look_at ! 0 refl) $ free_all ! refl $ keep ! (1 ∷ 0 ∷ 3 ∷ 2 ∷ []) $ by ! (leaves 𝓛 f.ended stays c z (live 0 vnil) None (tt, tt) (tt, tt)))
    (λ wrong. absurd wrong)))
    (λ b o x e some t. let w : Val = two (vptr b o) h in let typed = slot_fits R Z LZ ghosts b o h fits in
    let is : z.0.4.0 ≡ w ∷ [] = ws ∙ ap (λ (p : Ptr). two (ptr_val p) h ∷ []) e in
    let u : Val = live 1 (vcons w vnil) in let d : Sl.Denot = record { at = block_ptr b o; alloc = a; value = x } in
    let good : Good (layout Out) u = (and_tt _ typed.0, (record { fits = lit< tt }, (typed.1, tt))) in
    move ! (0 ∷ 1 ∷ []) $ slot_in R Z LZ ghosts ! b o h a x $ use1 𝓛 (‵ (Out.own_val (Some d) (u ∷ []))) (Some-of 𝓛 Sl d w) $
    suffices ! (Run (w ∷ [])) (same_run 𝓤 Run (λ i. is i ++ [])) $
    enter ! 𝓣.C 𝓣.Λ fn (w ∷ []) Post $ alloc_all ! (λ l. pass_all ! refl (typed, tt) $ let Ev = env fn.locals l in
    sets ! (of_opd ! (get_in ! (fld ! refl (stop !)) (sub ! 0 refl (whole !)))) refl (tt, tt) $
    sets ! (of_opd ! (get_in ! (fld ! refl (stop !)) (sub ! 1 refl (whole !)))) refl fits $
    sets ! (bin ! (get ! refl) (lit ! tt) (tests_null (block_ptr b o) t)) refl (tt, tt) $
    first ! $ branches ! (get ! refl) (λ wrong. absurd wrong)
    (λ _. sets ! (agg ! (and_then ! (get ! refl) (and_then ! (get ! refl) (no_more !)))) refl typed $
    sets_last ! (agg ! (and_then ! (lit ! tt) (and_then ! (get ! refl) (no_more !)))) refl good $
    exec ! 𝓣.C 𝓣.Λ Ev (after 4 fn.body) (at_ret Ev Post) $ sets ! (of_opd ! (get ! refl)) refl good $
    use0 𝓛 (raw (fact 𝓤 (v.shared ≡ Some x))) (fact_i 𝓤 (v.shared ≡ Some x) (emp 𝓤) some) $ nothing ! $ nothing ! $ nothing ! $ fjoin ! $
    returns ! (look_at ! 0 refl) $ free_all ! refl $ keep ! (1 ∷ 0 ∷ 3 ∷ 2 ∷ []) $ by ! (leaves 𝓛 f.ended stays c z u (Some d) (tt, tt) (tt, tt)))))))
