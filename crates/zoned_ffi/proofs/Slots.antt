-- A slot by value: what it owns taken out of it, and put into one. Assumes `Logic`.
use Rattle.core.proofs.{alloc.Calls.{Al, handle_tells}, cell.Inside.{Good}}
use Rattle.std_alloc.proofs.ResultValues.{and_tt}
use Rattle.zoned_ffi.proofs.Words.{Fml, Ghosts, Goal, Item, Laws, List, Logic, Ptr, RattleType, RawPtr, Seq, Step, T, Ura, Val, Valss, WT, block_ptr, box_owns}
use Rattle.zoned_ffi.proofs.Words.{dnil, feq_i, feq_l, fjoin, fpack, fpick, fsplit, fst∗, has_ty, impl, in_a_block, layout, lone, move, never, nothing}
use Rattle.zoned_ffi.proofs.Words.{null_ptr, of_list, ptr_val, refl, sem, shape, step, subst, tnil, true, vcons, vnil, vptr, vstruct, within, ℕ, [], ‵, ◌$◌}
use Rattle.zoned_ffi.proofs.Words.{SProp, ent, id⊢, sym, ◌&&◌, ◌++◌, ◌∷◌, ◌≡◌}
use mir.Raw.{raw as bare}
use types.Kit.{drop}
use Rattle.zoned_ffi.specs.contracts.slot.Slot as slot

-- the value of a struct of two fields
abbrev pub two : Val → Val → Val
two v w = vstruct (vcons v (vcons w vnil))

-- what holds of a run from some values holds of a run from equal ones
pub same_run : {M : Type 1} (𝓤 : Ura M) (run : List Val → SProp 𝓤) {us ws : List Val} → us ≡ ws → ent 𝓤 (run ws) (run us)
same_run 𝓤 run {us} {ws} e = subst (λ (vs : List Val). ent 𝓤 (run ws) (run vs)) (sym e) (id⊢ 𝓤 (run ws))

module _ (R Z : RattleType) (L : Laws Z) (g : Ghosts Z.Denot) where
  abbrev pub Slot : RattleType
  Slot = slot.the_row R Z g

  abbrev pub allocator : Al
  allocator = record { row = Z; laws = L; g = g; d = impl [] tnil dnil; drops = impl [] tnil dnil }

  -- the block at a pointer, with x in it
  abbrev pub block : Z.Denot → Ptr → R.Denot → Fml
  block a = box_owns (g.dealloc_token a) R

  -- a pointer into a block fits next to an allocator
  pub slot_fits : (b o : ℕ) (h : Val) → Good (layout Z) h → T (has_ty (layout Z) h && true) × WT (two (vptr b o) h)
  slot_fits b o h fits = (and_tt (has_ty (layout Z) h) fits.0, (tt, (fits.1, tt)))

  module _ {M : Type 1} {𝓤 : Ura M} {𝓛 : Logic 𝓤} {K : Type 0} {Γ : List (Item 𝓤)} {G : Goal 𝓤 𝓛.H} where
    pub slot_out : K → (s : Slot.Denot) (vs : List Val)
        → ((b o : ℕ) (h : Val) → s.at ≡ block_ptr b o → vs ≡ two (vptr b o) h ∷ [] → Good (layout Z) h
        → Seq K 𝓛 (‵ (block s.alloc (block_ptr b o) s.value) ∷ ‵ (Z.own_val s.alloc (h ∷ [])) ∷ Γ) G)
        → Seq K 𝓛 (‵ (Slot.own_val s vs) ∷ Γ) G
    slot_out t s vs k =
        fsplit t $ fpick t (λ parts. fsplit t $ feq_l t (λ whole. fsplit t $ feq_l t (λ pointer. fsplit t $
        handle_tells allocator t s.alloc parts.1.0 (λ h alone fits. move t (1 ∷ []) $ drop t $ move t (1 ∷ []) $
        in_a_block t s.at (λ p. block s.alloc p s.value) (fst∗ 𝓤 (never 𝓤) (sem 𝓛 (g.dealloc_token s.alloc (bare (lone R.mir)) null_ptr))) (λ b o e.
        let by_parts = subst (λ (ps : List Val). vs ≡ vstruct (of_list (ps ++ (parts.1.0 ++ []))) ∷ []) pointer whole in
        let by_handle = subst (λ (ws : List Val). vs ≡ vstruct (of_list (ptr_val s.at ∷ (ws ++ []))) ∷ []) alone by_parts in
        k b o h e (subst (λ (p : Ptr). vs ≡ vstruct (of_list (ptr_val p ∷ h ∷ [])) ∷ []) e by_handle) fits)))))

    pub slot_in : K → (b o : ℕ) (h : Val) (a : Z.Denot) (x : R.Denot)
        → Step K 𝓛 (‵ (Slot.own_val (record { at = block_ptr b o; alloc = a; value = x }) (two (vptr b o) h ∷ [])) ∷ Γ) G
        (‵ (block a (block_ptr b o) x) ∷ ‵ (Z.own_val a (h ∷ [])) ∷ Γ) G
    slot_in t b o h a x = step (λ rest. let v : Val = two (vptr b o) h in
        nothing t $ move t (2 ∷ 0 ∷ []) $ fjoin t $ feq_i t (List Val) (vptr b o ∷ []) (vptr b o ∷ []) refl $ fjoin t $ feq_i t (List Val)
        (v ∷ []) (v ∷ []) refl $ fjoin t $
        fpack t (Valss (RawPtr ∷ Z ∷ [])) (within (shape (slot.the_type R Z g)) (block_ptr b o, (a, tt)) (v ∷ []))
        (vptr b o ∷ [], (h ∷ [], tt)) $ fjoin t $ rest)
