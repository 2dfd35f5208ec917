-- `closed` makes a handle at null, which owns nothing.
use Rattle.std.specs.{contracts.impls.GlobalAllocator.TheImpl.{ghosts}, declared.option.Option.TheVariants.{None}}
use Rattle.zoned_ffi.proofs.Words.{Goes-dropped, List, SProp, Stays, Val, WpFn, agg, alloc_all, and_then, by, emp, enter, fact, fact_i, fjoin, fpack}
use Rattle.zoned_ffi.proofs.Words.{free_all, fsep, fsplit, ftrue, get, handle_tells, keep, leaves, lit, look_at, move, no_more, nothing, null_ptr}
use Rattle.zoned_ffi.proofs.Words.{pass_all, plain, proved_at, ptr_val, qed, raw, refl, returns, sets, split, stay_dropped, suffices, tables, use0}
use Rattle.zoned_ffi.proofs.Words.{walk_of, yes, !, [], ‵, ◌$◌, ◌++◌, ◌∵◌, ◌∷◌, ◌≡◌, ◌⊛◌}
use Rattle.zoned_ffi.proofs.{Handles.{LZ, R, Z, handle_in, null_fits}, Slots.{allocator, same_run, two}, handle.Handle.closed.Statement.{statement}}
use Rattle.zoned_ffi.specs.contracts.handle.Handle.closed as f
use Rattle.zoned_ffi.proofs.handle.Handle.closed.Code as code

pub closed_spec : {M : Type 1} → statement M
closed_spec 𝓤 𝓛 𝓜 𝓡 wired =
    let H = 𝓛.H in let 𝓣 = tables 𝓤 H 𝓜 𝓡 𝓡.env in let c = f.clauses 𝓛 𝓜.mem 𝓡.returns in let fn = code.function in
    let stays : Stays f.ended.signature.params f.ended.kept = (stay_dropped (plain (λ _. Z)) yes, tt) in
    proved_at 𝓛 f.ended stays c 𝓜 𝓡 (Goes-dropped 𝓛 0 (plain (λ _. Z)) yes (λ κs x l. refl), tt) f.Key.name fn (code.unfolded 𝓤 H 𝓜 𝓡 wired) (λ z are.
    let a = z.0.3.0 in let Post : Val → SProp 𝓤 = (walk_of 𝓛 f.ended stays c).post z in let Run : List Val → SProp 𝓤 = λ ws. WpFn 𝓤 H 𝓣.C 𝓣.Λ fn ws Post in
    qed 𝓛 ((‵ ftrue ⊛ ‵ (fsep (Z.own_val a z.0.4.0) ftrue)) ∷ ‵ ftrue ∷ []) ∵ split ! $ move ! (1 ∷ []) $ fsplit ! $
    handle_tells (allocator R Z LZ ghosts) ! a z.0.4.0 (λ h ws fits. let w : Val = two (ptr_val null_ptr) h in let typed = null_fits h fits in
    suffices ! (Run (h ∷ [])) (same_run 𝓤 Run (λ i. ws i ++ [])) $
    enter ! 𝓣.C 𝓣.Λ fn (h ∷ []) Post $ alloc_all ! (λ l. pass_all ! refl (fits, tt) $
    sets ! (agg ! (and_then ! (lit ! tt) (and_then ! (get ! refl) (no_more !)))) refl typed $
    nothing ! $ fpack ! (null_ptr ≡ null_ptr) (λ _. ftrue) refl $ handle_in ! null_ptr h a None $
    use0 𝓛 (raw (fact 𝓤 (None ≡ None))) (fact_i 𝓤 (None ≡ None) (emp 𝓤) refl) $ nothing ! $ nothing ! $ nothing ! $ fjoin ! $
    returns ! (look_at ! 0 refl) $ free_all ! refl $ keep ! (1 ∷ 0 ∷ 3 ∷ 2 ∷ []) $
    by ! (leaves 𝓛 f.ended stays c z w (record { at = null_ptr; alloc = a; shared = None }) (tt, tt) (tt, tt)))))
