-- `from_slot` keeps the pointer of the slot, and forgets its type.
use Rattle.std.specs.{contracts.impls.GlobalAllocator.TheImpl.{ghosts}, declared.option.Option.TheVariants.{Some}}
use Rattle.zoned_ffi.proofs.Words.{Goes-dropped, List, RattleType, SProp, Stays, Val, WpFn, agg, alloc_all, and_then, block_ptr, by, emp, enter, fact}
use Rattle.zoned_ffi.proofs.Words.{fact_i, fjoin, fld, free_all, fsep, fsplit, ftrue, get, get_in, keep, leaves, look_at, move, no_more, nothing, of_opd}
use Rattle.zoned_ffi.proofs.Words.{pass_all, plain, proved_at, qed, raw, refl, returns, sets, split, stay_dropped, stop, sub, suffices, tables}
use Rattle.zoned_ffi.proofs.Words.{use0, vptr, walk_of, whole, yes, !, [], ‵, ◌$◌, ◌++◌, ◌∵◌, ◌∷◌, ◌≡◌, ◌⊛◌}
use Rattle.zoned_ffi.proofs.{Handles.{LZ, R, Z, handle_in}, Slots.{Slot, same_run, slot_fits, slot_out, two}, handle.Handle.from_slot.Statement.{statement}}
use Rattle.zoned_ffi.specs.contracts.handle.Handle.from_slot as f
use Rattle.zoned_ffi.proofs.handle.Handle.from_slot.Code as code

pub from_slot_spec : {M : Type 1} → statement M
from_slot_spec 𝓤 𝓛 𝓜 𝓡 wired =
    let H = 𝓛.H in let 𝓣 = tables 𝓤 H 𝓜 𝓡 𝓡.env in let c = f.clauses 𝓛 𝓜.mem 𝓡.returns in let fn = code.function in
    let Sl : RattleType = Slot R Z LZ ghosts in let stays : Stays f.ended.signature.params f.ended.kept = (stay_dropped (plain (λ _. Sl)) yes, tt) in
    proved_at 𝓛 f.ended stays c 𝓜 𝓡 (Goes-dropped 𝓛 0 (plain (λ _. Sl)) yes (λ κs x l. refl), tt) f.Key.name fn (code.unfolded 𝓤 H 𝓜 𝓡 wired) (λ z are.
    let v = z.0.3.0 in let a = v.alloc in let x = v.value in let Post : Val → SProp 𝓤 = (walk_of 𝓛 f.ended stays c).post z in
    let Run : List Val → SProp 𝓤 = λ ws. WpFn 𝓤 H 𝓣.C 𝓣.Λ fn ws Post in
    qed 𝓛 ((‵ ftrue ⊛ ‵ (fsep (Sl.own_val v z.0.4.0) ftrue)) ∷ ‵ ftrue ∷ []) ∵ split ! $ move ! (1 ∷ []) $ fsplit ! $
    slot_out R Z LZ ghosts ! v z.0.4.0 (λ b o h e ws fits. let w : Val = two (vptr b o) h in let typed = slot_fits R Z LZ ghosts b o h fits in
    suffices ! (Run (w ∷ [])) (same_run 𝓤 Run (λ i. ws i ++ [])) $
    enter ! 𝓣.C 𝓣.Λ fn (w ∷ []) Post $ alloc_all ! (λ l. pass_all ! refl (typed, tt) $
    sets ! (of_opd ! (get_in ! (fld ! refl (stop !)) (sub ! 0 refl (whole !)))) refl (tt, tt) $
    sets ! (of_opd ! (get_in ! (fld ! refl (stop !)) (sub ! 1 refl (whole !)))) refl fits $
    sets ! (agg ! (and_then ! (get ! refl) (and_then ! (get ! refl) (no_more !)))) refl typed $
    handle_in ! (block_ptr b o) h a (Some x) $
    use0 𝓛 (raw (fact 𝓤 (Some x ≡ Some x))) (fact_i 𝓤 (Some x ≡ Some x) (emp 𝓤) refl) $ nothing ! $ nothing ! $ nothing ! $ fjoin ! $
    returns ! (look_at ! 0 refl) $ free_all ! refl $ keep ! (1 ∷ 0 ∷ 3 ∷ 2 ∷ []) $
    by ! (leaves 𝓛 f.ended stays c z w (record { at = block_ptr b o; alloc = a; shared = Some x }) (tt, tt) (tt, tt)))))
