-- A handle by value: what it owns taken out of it, and put into one. Assumes `Logic`.
use Rattle.core.proofs.{alloc.Calls.{handle_tells}, cell.Inside.{Good}}
use Rattle.std.specs.{contracts.impls.GlobalAllocator.TheImpl.{ghosts}, declared.{alloc.Global.{Global}, option.Option.{Option, TheVariants.{None, Some}}}}
use Rattle.std_alloc.proofs.ResultValues.{and_tt}
use Rattle.zoned_ffi.proofs.Words.{Goal, Item, Laws, List, Logic, Ptr, RattleType, RawPtr, SProp, Seq, Step, T, Testable, Ura, Val, Valss, WT, block_ptr, boxed}
use Rattle.zoned_ffi.proofs.Words.{dealloc_token-Testable, ent, fact_use, feq_i, feq_l, fjoin, fpack, fpick, fsplit, fst∗, full_share, guard, guard_i, has_ty}
use Rattle.zoned_ffi.proofs.Words.{held, in_a_block, layout, lies_at, lit<, lone, move, never, nothing, null_ptr, of_list, ptr_val, refl, sem, shape}
use Rattle.zoned_ffi.proofs.Words.{shared_row, snd∗, step, subst, to, true, use1, via, vstruct, within, ℕ, [], ‵, ◌$◌, ◌&&◌, ◌++◌, ◌∷◌, ◌≡◌}
use Rattle.zoned_ffi.proofs.Slots.{allocator, two}
use types.Kit.{given, learn, drop}
use mir.Raw.{raw as bare}
use Rattle.std.proofs.alloc.Global.TheLaws as heap_laws
use Rattle.std.specs.contracts.alloc.Global as heap
use Rattle.zoned_ffi.specs.contracts.handle.Handle as handle

abbrev pub R : RattleType
R = shared_row

abbrev pub Z : RattleType
Z = heap.the_row

abbrev pub LZ : Laws Z
LZ = heap_laws.the_row_laws

abbrev pub Hd : RattleType
Hd = handle.the_row

pub null_fits_word : WT (ptr_val null_ptr)
null_fits_word = record { fits = lit< tt }

pub null_fits : (h : Val) → Good (layout Z) h → T (has_ty (layout Z) h && true) × WT (two (ptr_val null_ptr) h)
null_fits h fits = (and_tt (has_ty (layout Z) h) fits.0, (null_fits_word, (fits.1, tt)))

module _ {M : Type 1} {𝓤 : Ura M} (𝓛 : Logic 𝓤) (a : Global) where
  -- the pointer of a block may be compared with null
  tested : (p : Ptr) (x : R.Denot) → ent 𝓤 (sem 𝓛 (boxed R a p x)) (guard 𝓤 (Testable p) (sem 𝓛 (boxed R a p x)))
  tested p x =
      let block : SProp 𝓤 = sem 𝓛 (boxed R a p x) in
      let freed = snd∗ 𝓤 (sem 𝓛 (lies_at R full_share p x)) (sem 𝓛 (ghosts.dealloc_token a (bare (lone R.mir)) p)) in
      fact_use 𝓤 (Testable p) (via 𝓤 _ freed (dealloc_token-Testable 𝓛 a (bare (lone R.mir)) p)) (guard_i 𝓤 (Testable p) block)

module _ {M : Type 1} {𝓤 : Ura M} {𝓛 : Logic 𝓤} {K : Type 0} {Γ : List (Item 𝓤)} {G : Goal 𝓤 𝓛.H} where
  pub handle_out : K → (d : Hd.Denot) (vs : List Val)
      → ((h : Val) → vs ≡ two (ptr_val d.at) h ∷ [] → Good (layout Z) h
      → Seq K 𝓛 (‵ (held R d.alloc d.at d.shared) ∷ ‵ (Z.own_val d.alloc (h ∷ [])) ∷ Γ) G)
      → Seq K 𝓛 (‵ (Hd.own_val d vs) ∷ Γ) G
  handle_out t d vs k =
      fsplit t $ fpick t (λ parts. fsplit t $ feq_l t (λ whole. fsplit t $ feq_l t (λ pointer. fsplit t $
      handle_tells (allocator R Z LZ ghosts) t d.alloc parts.1.0 (λ h alone fits. move t (1 ∷ []) $ drop t $ move t (1 ∷ []) $
      let by_parts = subst (λ (ps : List Val). vs ≡ vstruct (of_list (ps ++ (parts.1.0 ++ []))) ∷ []) pointer whole in
      k h (subst (λ (ws : List Val). vs ≡ vstruct (of_list (ptr_val d.at ∷ (ws ++ []))) ∷ []) alone by_parts) fits))))

  pub handle_in : K → (p : Ptr) (h : Val) (a : Global) (k : Option R.Denot)
      → Step K 𝓛 (‵ (Hd.own_val (record { at = p; alloc = a; shared = k }) (two (ptr_val p) h ∷ [])) ∷ Γ) G
      (‵ (held R a p k) ∷ ‵ (Z.own_val a (h ∷ [])) ∷ Γ) G
  handle_in t p h a k = step (λ rest. let v : Val = two (ptr_val p) h in
      nothing t $ move t (2 ∷ 0 ∷ []) $ fjoin t $ feq_i t (List Val) (ptr_val p ∷ []) (ptr_val p ∷ []) refl $ fjoin t $ feq_i t (List Val)
      (v ∷ []) (v ∷ []) refl $ fjoin t $
      fpack t (Valss (RawPtr ∷ Z ∷ [])) (within (shape handle.the_type) (to handle.the_type (record { at = p; alloc = a; shared = k })) (v ∷ []))
      (ptr_val p ∷ [], (h ∷ [], tt)) $ fjoin t $ rest)

  -- null and none open, or a block whose pointer may be compared with null
  pub null_or_block : K → (a : Global) (p : Ptr) (k : Option R.Denot) → (p ≡ null_ptr → k ≡ None → Seq K 𝓛 Γ G)
      → ((b o : ℕ) (x : R.Denot) → p ≡ block_ptr b o → k ≡ Some x → Testable (block_ptr b o) → Seq K 𝓛 (‵ (boxed R a (block_ptr b o) x) ∷ Γ) G)
      → Seq K 𝓛 (‵ (held R a p k) ∷ Γ) G
  null_or_block t a p None at_null at_block = fpick t (λ e. drop t $ at_null e refl)
  null_or_block t a p (Some x) at_null at_block =
      in_a_block t p (λ r. boxed R a r x) (fst∗ 𝓤 (never 𝓤) (sem 𝓛 (ghosts.dealloc_token a (bare (lone R.mir)) null_ptr))) (λ b o e.
      use1 𝓛 (given (Testable (block_ptr b o)) (‵ (boxed R a (block_ptr b o) x))) (tested 𝓛 a (block_ptr b o) x) $ learn t (λ may. at_block b o x e refl may))
