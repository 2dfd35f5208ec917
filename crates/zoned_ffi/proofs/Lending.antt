-- A handle that is only read: what it holds is had twice, and a `&` to it lends the value at its pointer. Assumes `Logic`.
use Rattle.std.specs.{contracts.impls.GlobalAllocator.TheImpl.{ghosts}, declared.option.Option.{Option, TheVariants.{None, Some}}}
use base.Fml.{Incl-refl, fbor, fdead, fex, fshr_bor, fupd, fwand}
use denote.{Opens.{Cuts, Cuts-Halves, Cuts-both, Cuts-map, Opened-one, Opens, Shut, twice_dup, unhide}, Memory.{cell_cut, cell_join, hidden_shr, part_at}}
use denote.Memory.{shared_of}
use Rattle.zoned_ffi.proofs.Words.{Fml, Goal, Halves, Item, Lft, List, Logic, Ptr, RattleType, RawPtr, RowLaws, Seq, Share, ShrLaws, Step, Testable, Ura, Val}
use Rattle.zoned_ffi.proofs.Words.{Valss, await, block_ptr, by, cell_at, contraction, ent, feq_i, feq_l, fjoin, flft, fpack, fpick, fsep, fseps, fsplit, fst∗}
use Rattle.zoned_ffi.proofs.Words.{ftrue, id⊢, in_a_block, keep, later, lent, lent_at, lent_at_shr_laws, loan, looks, meet_⊑_left, move, moves_from, never}
use Rattle.zoned_ffi.proofs.Words.{nothing, null_ptr, of_list, part_of, pick, ptr_val, qed, refl, rewrite, sem, sep, shape, shared_row, shuts, !, some, split}
use Rattle.zoned_ffi.proofs.Words.{step, subst, suffices, to, upd_i, use1, vcons, vnil, vstruct, within, ℕ, [], ‵, ◌$◌, ◌++◌, ◌∵◌, ◌∷◌, ◌≡◌, ◌⊛◌}
use types.{Kit.{Soaks, assume, done, fsplit3, now, updating, use2, drop}, Tokens.{bor_fracture, bor_open, obor_alter}}
use Rattle.std.proofs.alloc.Global.TheLaws as heap_laws
use Rattle.std.specs.contracts.alloc.Global as heap
use Rattle.std_alloc.proofs.arc.Arc.TheLaws as arc_laws
use base.Share as half
use Rattle.tz_info.proofs.zone.time_zone.TimeZone.TheLaws as zone_laws
use Rattle.tz_info.specs.contracts.zone.time_zone.TimeZone as zone
use Rattle.zoned_ffi.specs.contracts.lent.Lent as lent_handle

abbrev pub R : RattleType
R = shared_row

pub row_laws : RowLaws R
row_laws = (arc_laws.the_row_laws zone.the_row heap.the_row ghosts zone_laws.the_row_laws heap_laws.the_row_laws).shr_laws

abbrev pub Le : RattleType
Le = lent_handle.the_row

abbrev pub word : Ptr → Val
word p = vstruct (vcons (ptr_val p) vnil)

module _ {M : Type 1} {𝓤 : Ura M} {𝓛 : Logic 𝓤} {K : Type 0} {Γ : List (Item 𝓤)} {G : Goal 𝓤 𝓛.H} where
  pub lent_out : K → (d : Le.Denot) (vs : List Val) → (vs ≡ word d.at ∷ [] → Seq K 𝓛 (‵ (lent R d.life d.at d.shared) ∷ Γ) G)
      → Seq K 𝓛 (‵ (Le.own_val d vs) ∷ Γ) G
  lent_out t d vs k =
      fsplit t $ fpick t (λ parts. fsplit t $ feq_l t (λ whole. fsplit t $ feq_l t (λ pointer. drop t $
      k (subst (λ (ps : List Val). vs ≡ vstruct (of_list (ps ++ [])) ∷ []) pointer whole))))

  pub lent_in : K → (d : Le.Denot) → Step K 𝓛 (‵ (Le.own_val d (word d.at ∷ [])) ∷ Γ) G (‵ (lent R d.life d.at d.shared) ∷ Γ) G
  lent_in t d = step (λ rest. let v : Val = word d.at in
      nothing t $ feq_i t (List Val) (ptr_val d.at ∷ []) (ptr_val d.at ∷ []) refl $ fjoin t $ feq_i t (List Val) (v ∷ []) (v ∷ []) refl $ fjoin t $
      fpack t (Valss (RawPtr ∷ [])) (within (shape lent_handle.the_type) (to lent_handle.the_type d) (v ∷ [])) (ptr_val d.at ∷ [], tt) $ fjoin t $ rest)

module _ {M : Type 1} {𝓤 : Ura M} (𝓛 : Logic 𝓤) where
  open 𝓛 use {H, A}

  abbrev laws : (p : Ptr) (x : R.Denot) → ShrLaws (lent_at R p x)
  laws p x = lent_at_shr_laws R row_laws p x

  twice : (a : ℕ) (p : Ptr) (k : Option R.Denot) → ent 𝓤 (sem 𝓛 (lent R a p k)) (sep 𝓤 (sem 𝓛 (lent R a p k)) (sem 𝓛 (lent R a p k)))
  twice a p None = qed 𝓛 (‵ (lent R a p None) ∷ []) ∵ fpick !
      (λ e. drop ! $ nothing ! $ fpack ! (p ≡ null_ptr) (λ _. ftrue) e $ nothing ! $ fpack ! (p ≡ null_ptr) (λ _. ftrue) e $ done !)
  twice a p (Some x) = qed 𝓛 (‵ (lent R a p (Some x)) ∷ []) ∵ fpick ! (λ t. fpick ! (λ e. fsplit ! $
      use1 𝓛 (‵ (flft (a ∷ []) (half.left e)) ⊛ ‵ (flft (a ∷ []) (half.right e))) (𝓛.lfts.lft_split (a ∷ []) e) $ split ! $ move ! (2 ∷ []) $
      use1 𝓛 (‵ (lent_at R p x (a ∷ [])) ⊛ ‵ (lent_at R p x (a ∷ []))) (contraction 𝓛 (lent_at R p x) (laws p x) (a ∷ [])) $ split ! $
      move ! (2 ∷ 0 ∷ []) $ fjoin ! $ fpack ! Share (loan R a p x) (half.left e) $ fpack ! (Testable p) (λ _. fex Share (loan R a p x)) t $
      move ! (2 ∷ 1 ∷ []) $ fjoin ! $ fpack ! Share (loan R a p x) (half.right e) $ fpack ! (Testable p) (λ _. fex Share (loan R a p x)) t $ done !))

  module _ (d : Le.Denot) (b o : ℕ) where
    abbrev whole : Share → Fml
    whole q = part_at Le q d b o

    abbrev holds : Fml
    holds = lent R d.life d.at d.shared

    abbrev parts : Share → Fml
    parts q = fsep (cell_at q Le.mir (word d.at ∷ []) b o) holds

    into : (q : Share) → ent 𝓤 (sem 𝓛 (parts q)) (sem 𝓛 (whole q))
    unfolding part_of
    into q = qed 𝓛 (‵ (parts q) ∷ []) ∵ fsplit ! $ move ! (1 ∷ []) $ lent_in ! d $ move ! (1 ∷ 0 ∷ []) $ fjoin ! $
        fpack ! (List Val) (λ vs. fsep (cell_at q Le.mir vs b o) (Le.own_val d vs)) (word d.at ∷ []) $ done !

    out : (q : Share) → ent 𝓤 (sem 𝓛 (whole q)) (sem 𝓛 (parts q))
    unfolding part_of
    out q = qed 𝓛 (‵ (whole q) ∷ []) ∵ fpick ! (λ vs. fsplit ! $ move ! (1 ∷ []) $ lent_out ! d vs (λ e. move ! (1 ∷ 0 ∷ []) $
        rewrite ! 0 (λ (us : List Val). ‵ (cell_at q Le.mir us b o)) e refl $ fjoin ! $ done !))

    cuts : Cuts 𝓛 whole
    cuts = Cuts-map 𝓛 parts whole into out (Cuts-both 𝓛 (λ q. cell_at q Le.mir (word d.at ∷ []) b o) (λ q. holds)
        (record { cut = λ q q₁ q₂ m. cell_cut 𝓛 q q₁ q₂ m Le.mir (word d.at ∷ []) b o; join = λ q q₁ q₂ m. cell_join 𝓛 q q₁ q₂ m Le.mir (word d.at ∷ []) b o })
        (record { cut = λ q q₁ q₂ m. twice d.life d.at d.shared; join = λ q q₁ q₂ m. qed 𝓛 (‵ holds ∷ ‵ holds ∷ []) ∵ drop ! $ done ! }))

    halves : Halves 𝓤 H A whole
    halves = Cuts-Halves 𝓛 whole cuts

  pub opened : Opens 𝓛 Le
  opened d b o = (Opened-one 𝓛 (whole d b o) (halves d b o), λ κ. 𝓛.shr_bors.shr_bor_dup κ (whole d b o))

  module _ (p : Ptr) (a : ℕ) (x : R.Denot) (b o : ℕ) where
    abbrev D : Le.Denot
    D = record { at = p; life = a; shared = Some x }

    abbrev Kept : Share → Fml
    Kept s = whole D b o s

    abbrev Again : Lft → Share → Share → Fml
    Again κ e s = fwand (fsep (fdead κ) (fseps (flft (a ∷ []) e ∷ []))) (fupd (Kept s))

    abbrev At : Lft → Fml
    At κ = fex (Testable p) (λ _. lent_at R p x κ)

    again : (κ : Lft) (e s : Share) → Testable p
        → ent 𝓤 (sep 𝓤 (sem 𝓛 (cell_at s Le.mir (word p ∷ []) b o)) (sem 𝓛 (lent_at R p x (a ∷ [])))) (sem 𝓛 (Again κ e s))
    unfolding fseps
    again κ e s t = qed 𝓛 (‵ (cell_at s Le.mir (word p ∷ []) b o) ∷ ‵ (lent_at R p x (a ∷ [])) ∷ []) ∵ assume !
        (‵ (fsep (fdead κ) (fsep (flft (a ∷ []) e) ftrue))) $
        suffices ! (sem 𝓛 (Kept s)) (upd_i 𝓤 (sem 𝓛 (Kept s))) $ fsplit3 ! $ keep ! (1 ∷ 4 ∷ 3 ∷ []) $ fjoin ! $ fpack ! Share (loan R a p x) e $
        fpack ! (Testable p) (λ _. fex Share (loan R a p x)) t $ move ! (1 ∷ 0 ∷ []) $ fjoin ! $ by ! (into D b o s)

    pub lends : (κ : Lft) (q : Share) → ent 𝓤 (sep 𝓤 (sem 𝓛 (shared_of Le D b o κ)) (A.lft κ q)) (H.⇛ (sep 𝓤 (sem 𝓛 (At κ)) (A.lft κ q)))
    unfolding fseps
    lends κ q = qed 𝓛 (‵ (fshr_bor κ Kept) ∷ ‵ (flft κ q) ∷ []) ∵ updating ! $
        use2 𝓛 (later (some (λ (s : Share). ‵ (fbor κ (Kept s))) ⊛ ‵ (flft κ q))) (𝓛.shr_bors.shr_bor_carve κ ((κ, q) ∷ []) Kept (halves D b o) (Incl-refl κ)) $
        await ! tt $ split ! $ pick ! (λ s.
        bor_open ! tt $ move ! (1 ∷ []) $ use1 𝓛 (‵ (parts D b o s)) (out D b o s) $ fsplit ! $ move ! (1 ∷ []) $ fpick !
        (λ t. fpick ! (λ e. fsplit ! $ move ! (1 ∷ []) $
        use1 𝓛 (‵ (lent_at R p x (a ∷ [])) ⊛ ‵ (lent_at R p x (a ∷ []))) (contraction 𝓛 (lent_at R p x) (laws p x) (a ∷ [])) $ split ! $
        -- [lent; lent; the token; the cell; the open borrow]
        move ! (3 ∷ 0 ∷ []) $ use2 𝓛 (‵ (Again κ e s)) (again κ e s t) $ move ! (2 ∷ []) $ nothing ! $ move ! (1 ∷ 0 ∷ []) $ fjoin ! $
        -- [the token; the way back; lent; the open borrow]
        move ! (3 ∷ 0 ∷ 1 ∷ []) $ obor_alter ! tt (flft (a ∷ []) e ∷ []) $
        use1 𝓛 (‵ (fbor κ (flft (a ∷ []) e)) ⊛ ‵ ftrue) (id⊢ 𝓤 _) $ split ! $ bor_fracture ! tt (λ r. flft (a ∷ []) r) e $ move ! (0 ∷ 3 ∷ []) $
        use2 𝓛 (‵ (lent_at R p x κ)) (moves_from 𝓛 (lent_at R p x) (laws p x) κ (a ∷ []) (a ∷ []) (meet_⊑_left (a ∷ []) κ)) $
        fpack ! (Testable p) (λ _. lent_at R p x κ) t $ now ! $ keep ! (0 ∷ 2 ∷ []) $ done !)))

module _ {M : Type 1} {𝓤 : Ura M} {𝓛 : Logic 𝓤} {K : Type 0} {Γ : List (Item 𝓤)} {G : Goal 𝓤 𝓛.H} where
  -- null and nothing lent, or a block in which a share is lent
  pub null_or_lent : K → Soaks G → (κ : Lft) (q : Share) (b o : ℕ) (p : Ptr) (a : ℕ) (k : Option R.Denot)
      → (p ≡ null_ptr → k ≡ None → Seq K 𝓛 (‵ (hidden_shr Le κ (record { at = p; life = a; shared = k }) b o) ∷ ‵ (flft κ q) ∷ Γ) G)
      → ((pb po : ℕ) (x : R.Denot) → p ≡ block_ptr pb po → k ≡ Some x → Testable (block_ptr pb po)
      → Seq K 𝓛 (‵ (lent_at R (block_ptr pb po) x κ) ∷ ‵ (flft κ q) ∷ ‵ (hidden_shr Le κ (record { at = p; life = a; shared = k }) b o) ∷ Γ) G)
      → Seq K 𝓛 (‵ (hidden_shr Le κ (record { at = p; life = a; shared = k }) b o) ∷ ‵ (flft κ q) ∷ Γ) G
  null_or_lent t z κ q b o p a None at_null at_block =
      let d : Le.Denot = record { at = p; life = a; shared = None } in
      looks t z Le (opened 𝓛) d b o (λ q' vs. move t (1 ∷ []) $ lent_out t d vs (λ e. fpick t (λ n. fpack t (p ≡ null_ptr) (λ _. ftrue) n $ lent_in t d $
      rewrite t 1 (λ (us : List Val). ‵ (cell_at q' Le.mir us b o)) e refl $ move t (1 ∷ 0 ∷ 2 ∷ []) $ shuts t z Le q' d (word p ∷ []) b o $ move t
      (1 ∷ 0 ∷ []) $ at_null n refl)))
  null_or_lent t z κ q b o p a (Some x) at_null at_block =
      let d : Le.Denot = record { at = p; life = a; shared = Some x } in
      twice_dup t (shared_of Le d b o) (opened 𝓛 d b o).1 κ $ unhide t $ move t (0 ∷ 2 ∷ []) $
      use2 𝓛 (later (‵ (fex (Testable p) (λ _. lent_at R p x κ)) ⊛ ‵ (flft κ q))) (lends 𝓛 p a x b o κ q) $ await t z $ split t $ fpick t (λ may.
      in_a_block t p (λ r. lent_at R r x κ) (fst∗ 𝓤 (never 𝓤) (sem 𝓛 (shared_of R x 0 0 κ))) (λ pb po e.
      at_block pb po x e refl (subst Testable e may)))

  -- the pointer in the handle is read
  pub reads : K → Soaks G → (κ : Lft) (q : Share) (b o : ℕ) (d : Le.Denot)
      → ((s : Share)
      → Seq K 𝓛 (‵ (lent R d.life d.at d.shared) ∷ ‵ (cell_at s Le.mir (word d.at ∷ []) b o) ∷ Shut 𝓛 κ q (part_at Le s d b o) ∷ ‵
      (hidden_shr Le κ d b o) ∷ Γ) G)
      → Seq K 𝓛 (‵ (hidden_shr Le κ d b o) ∷ ‵ (flft κ q) ∷ Γ) G
  reads t z κ q b o d k = looks t z Le (opened 𝓛) d b o (λ s vs. move t (1 ∷ []) $ lent_out t d vs (λ e.
      rewrite t 1 (λ (us : List Val). ‵ (cell_at s Le.mir us b o)) e refl $ k s))

  pub read : K → Soaks G → (κ : Lft) (q s : Share) (b o : ℕ) (d : Le.Denot)
      → Step K 𝓛 (‵ (flft κ q) ∷ Γ) G (‵ (lent R d.life d.at d.shared) ∷ ‵ (cell_at s Le.mir (word d.at ∷ []) b o) ∷ Shut 𝓛 κ q (part_at Le s d b o) ∷ Γ) G
  read t z κ q s b o d = step (λ rest. lent_in t d $ move t (1 ∷ 0 ∷ 2 ∷ []) $ shuts t z Le s d (word d.at ∷ []) b o $ rest)
