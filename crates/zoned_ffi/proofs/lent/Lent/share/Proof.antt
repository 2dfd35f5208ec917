-- `share` reads the pointer, tests it, and lends the value there for as long as the handle is lent. Assumes `Logic`.
use Rattle.std.specs.declared.option.Option.TheVariants.{None, Some}
use denote.Ref.{ShrRef, shr_Tells, shr_vals}
use types.{Run.{addr, load, returns_within, skips}, Kit.{drop}}
use Rattle.zoned_ffi.proofs.Words.{Bor, Goes-dropped, Lft, List, Ptr, RattleType, RefOf, SProp, Share, Some-of, Stays, Val, after, agg, alloc_all, and_then}
use Rattle.zoned_ffi.proofs.Words.{at_ret, bin, block_ptr, blocks, branches, by, cell_at, emp, enter, env, exec, fact, fact_i, feq_i, first, fjoin, fld, flft}
use Rattle.zoned_ffi.proofs.Words.{free_all, fsplit, ftrue, get, hide, join, keep, leaves, lit, lit<, live, look_at, look_in, move, named, no_more, none_of}
use Rattle.zoned_ffi.proofs.Words.{nothing, of_opd, owns, pass_all, plain, proved, qed, raw, refl, returns, rewrite, sets, sets_last, split, stay_dropped, stop}
use Rattle.zoned_ffi.proofs.Words.{sub, sym, tables, tests_null, through, types_at, use0, use1, vcons, vnil, vptr, walk_of, whole, yes, ℕ, !, [], ‵, ◌$◌, ◌∵◌}
use Rattle.zoned_ffi.proofs.{Words.{◌∷◌, ◌≡◌, ◌⊛◌}, Lending.{Le, R, null_or_lent, read, reads, word}, lent.Lent.share.Statement.{statement}}
use Rattle.std.specs.contracts.option.Option as OP
use Rattle.zoned_ffi.specs.contracts.lent.Lent.share as f
use Rattle.zoned_ffi.proofs.lent.Lent.share.Code as code

pub share_spec : {M : Type 1} → statement M
share_spec 𝓤 𝓛 𝓜 𝓡 wired =
    let H = 𝓛.H in let 𝓣 = tables 𝓤 H 𝓜 𝓡 𝓡.env in let c = f.clauses 𝓛 𝓜.mem 𝓡.returns in let fn = code.function in
    let stays : Stays f.ended.signature.params f.ended.kept = (stay_dropped (RefOf (0 ∷ []) tt (plain (λ _. Le)) (λ _. tt)) yes, tt) in
    proved 𝓛 f.ended stays c 𝓜 𝓡 (Goes-dropped 𝓛 1 (RefOf (0 ∷ []) tt (plain (λ _. Le)) (λ _. tt)) yes (λ κs x l. refl), tt) f.Key.name
    fn (code.unfolded 𝓤 H 𝓜 𝓡 wired)
    (λ κs. (shr_vals, tt)) (λ κs. (shr_Tells (named 0) κs.0 Le, tt)) (λ κs qs bounds a gh are.
    let κ : Lft = κs.0 in let q : Share = qs.0 in let Lent : RattleType = ShrRef (named 0) κ R in
    let b : ℕ = a.0.ref_ptr.0 in let o : ℕ = a.0.ref_ptr.1 in let d : Le.Denot = a.0.now in
    let y : (walk_of 𝓛 f.ended stays c).Ghost = ((κs, qs, bounds, a, (vptr b o ∷ [], tt)), gh) in
    let Post : Val → SProp 𝓤 = (walk_of 𝓛 f.ended stays c).post y in
    qed 𝓛 (((‵ (flft κ q) ⊛ ‵ ftrue) ⊛ ‵ (owns (types_at f.ended.signature.params κs) a y.0.4)) ∷ ‵ ftrue ∷ []) ∵
    split ! $ split ! $ move ! (2 ∷ []) $ fsplit ! $ fsplit ! $ keep ! (1 ∷ 3 ∷ []) $
    enter ! 𝓣.C 𝓣.Λ fn (vptr b o ∷ []) Post $ alloc_all ! (λ l. pass_all ! refl ((tt, tt), tt) $ let Ev = env fn.locals l in
    null_or_lent ! tt κ q b o d.at d.life d.shared
    (λ none closed. reads ! tt κ q b o d (λ s. rewrite ! 1 (λ (r : Ptr). ‵ (cell_at s Le.mir (word r ∷ []) b o)) none refl $
    sets ! (of_opd ! (load ! (through ! refl (fld ! refl (stop !))) (look_in ! 1 (sub ! 0 refl (whole !))))) refl (tt, record { fits = lit< tt }) $
    rewrite ! 1 (λ (r : Ptr). ‵ (cell_at s Le.mir (word r ∷ []) b o)) (sym none) refl $ read ! tt κ q s b o d $
    sets ! (bin ! (get ! refl) (lit ! tt) tt) refl (tt, tt) $
    first ! $ branches ! (get ! refl)
    (λ _. sets ! (agg ! (and_then ! (lit ! tt) (no_more !))) refl (tt, (record { fits = lit< tt }, tt)) $
    returns_within ! Post refl (look_at ! 0 refl) $ free_all ! refl $
    use0 𝓛 (‵ ((OP.the_row Lent).own_val None (live 0 vnil ∷ []))) (none_of 𝓛 Lent) $
    use0 𝓛 (raw (fact 𝓤 (d.shared ≡ None))) (fact_i 𝓤 (d.shared ≡ None) (emp 𝓤) closed) $ nothing ! $ nothing ! $ fjoin ! $
    nothing ! $ move ! (4 ∷ 0 ∷ []) $ join ! $ keep ! (0 ∷ 1 ∷ 3 ∷ 2 ∷ []) $ by ! (leaves 𝓛 f.ended stays c y (live 0 vnil) None (tt, tt) (tt, tt)))
    (λ wrong. absurd wrong)))
    (λ pb po x at is may. let v : Val = vptr pb po in let r : Bor R.Denot = record { ref_ptr = (pb, po); now = x } in
    move ! (2 ∷ 1 ∷ 0 ∷ []) $ reads ! tt κ q b o d (λ s. rewrite ! 1 (λ (r : Ptr). ‵ (cell_at s Le.mir (word r ∷ []) b o)) at refl $
    sets ! (of_opd ! (load ! (through ! refl (fld ! refl (stop !))) (look_in ! 1 (sub ! 0 refl (whole !))))) refl (tt, tt) $
    rewrite ! 1 (λ (r : Ptr). ‵ (cell_at s Le.mir (word r ∷ []) b o)) (sym at) refl $ read ! tt κ q s b o d $
    sets ! (bin ! (get ! refl) (lit ! tt) (tests_null (block_ptr pb po) may)) refl (tt, tt) $
    first ! $ branches ! (get ! refl) (λ wrong. absurd wrong)
    (λ _. skips ! $ exec ! 𝓣.C 𝓣.Λ Ev (after 3 fn.body) (at_ret Ev Post) $
    first ! $ blocks ! $ sets ! (addr ! (through ! refl (stop !))) refl (tt, tt) $
    sets_last ! (agg ! (and_then ! (lit ! tt) (and_then ! (get ! refl) (no_more !)))) refl (tt, (record { fits = lit< tt }, (tt, tt))) $
    exec ! 𝓣.C 𝓣.Λ Ev (after 4 fn.body) (at_ret Ev Post) $ sets ! (of_opd ! (get ! refl)) refl (tt, (record { fits = lit< tt }, (tt, tt))) $
    move ! (2 ∷ []) $ fsplit ! $ drop ! $ hide ! $ feq_i ! (List Val) (v ∷ []) (v ∷ []) refl $ fjoin ! $
    use1 𝓛 (‵ ((OP.the_row Lent).own_val (Some r) (live 1 (vcons v vnil) ∷ []))) (Some-of 𝓛 Lent r v) $
    use0 𝓛 (raw (fact 𝓤 (d.shared ≡ Some x))) (fact_i 𝓤 (d.shared ≡ Some x) (emp 𝓤) is) $ nothing ! $ nothing ! $ fjoin ! $
    nothing ! $ move ! (4 ∷ 0 ∷ []) $ join ! $
    returns ! (look_at ! 0 refl) $ free_all ! refl $ keep ! (0 ∷ 1 ∷ 3 ∷ 2 ∷ []) $ by !
    (leaves 𝓛 f.ended stays c y (live 1 (vcons v vnil)) (Some r) (tt, tt) (tt, tt)))))))
