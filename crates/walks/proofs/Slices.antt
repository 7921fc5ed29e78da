-- A slice that is lent, in a walk by hand.
--     opened, closed   a `&mut [T]` is opened, which gives the row of its elements, and is closed at another list of the same length.        looked,
--                      shut      the like of a `&[T]` where T is Copy, which gives a share of the row (`shared_elements`) and what shuts it (`looking`)
--     opened_first     a `&mut [T]` is opened with the first of several tokens; the others stay.        copied   a `&[T]` is had twice
--     given_up         a `&mut [T]` is given up, which leaves what says its last list.        spent    it was given up to a callee
--     lent_again       a whole row is lent as a `&[T]` for a lifetime ν of its own, by the law that makes a `&T`, until it comes back (`back_again`).
--     lent_mut, back_mut       the like of a `&mut [T]`, which comes back with the callee's last list
-- Assumes `Logic`.
use mathlib.Core.Path.{◌≡◌, refl, sym, ap, subst}
use Prim.Native.Nat.{ℕ, ◌+◌, ◌*◌, ◌<◌}
use mathlib.Core.List.{List, [], ◌∷◌}
use lib.ListN.{length, set, get_or}
use seplogic.Ra.Ura.{Ura}
use base.Fraction.{full_share}
use mir.Syntax.{Lifetime}
use mir.Val.{Val}
use base.Fml.{Lft, Incl-refl, GName, Share, Fml, ftrue, fsep, feq, flft, fobs, fauth, fres, fobor, flent}
use base.Logic.{sep, emp, id⊢}
use types.Logic.{Logic}
use types.Kit.{Goal, Soaks, Item, ‵, raw, ◌⊛◌, some, later, Seq, Step, step, ◌$◌, move, drop, rewrite, use0, use1, use2, split, join, pick, fsplit}
use types.Kit.{fjoin, feq_i, feq_l, await}
use types.Share.{arr_parts}
use types.Tokens.{lft_new, lft_end, lent_back}
use denote.RattleType.{RattleType, RowLaws}
use denote.Copied.{Copied}
use denote.Laws.{Is, shows}
use denote.Memory.{mem, shares, cell_at}
use denote.Signature.{Slot}
use denote.Steps.{nothing, owned}
use denote.Opens.{Shut}
use denote.Shadow.{pure_i}
use denote.Shares.{Shares}
use denote.Ref.{Bor, MutBor, as_bor, at_last}
use denote.Slice.{slice_val, shr_slice_vals, mut_slice_vals, MutSlice, ShrSlice, heres, Room, mut_slice_at, coded_holeys, finally, res-finally, shr_slice_copy}
use denote.Lend.{Held, lends_shr_slice, lends_slice, slice_back}
use types.SemTy.{cells, Arr}
use denote.Index.{row, whole_in, whole_out, others, place_is, elem_out, elem_back, elem_put, opens_slice, closes_slice, looks_slice, shuts_slice}
use Rattle.walks.proofs.Types.{Plain}
use Rattle.walks.proofs.Walked.{nothings, had}

module _ (R : RattleType) (x : MutBor (List R.Denot)) where
  -- what says that the slice is open
  abbrev pub opening : Lft → Share → Fml
  opening κ q = fobor κ q (Held R (length x.now) x.ref_ptr.0 x.ref_ptr.1 x.ghost_name)

  abbrev pub noted : Fml
  noted = fobs x.ghost_name ((coded_holeys R).code (heres R x.now))

  abbrev pub known : Fml
  known = fauth x.ghost_name ((coded_holeys R).code (heres R x.now))

  -- the elements zs in their places
  abbrev pub elements : Share → List R.Denot → Fml
  elements s zs = row R s zs x.ref_ptr.0 x.ref_ptr.1

  abbrev pub part_of : Share → Fml
  part_of s = (arr_parts (shares R) (length x.now)).part s x.now x.ref_ptr.0 x.ref_ptr.1

-- the elements of a `&[T]` in their places
abbrev pub shared_elements : (R : RattleType) → Bor (List R.Denot) → Share → List R.Denot → Fml
shared_elements R x s zs = row R s zs x.ref_ptr.0 x.ref_ptr.1

-- what says that a `&[T]` is looked into, at the share s of its elements
abbrev pub looking : {M : Type 1} {𝓤 : Ura M} (𝓛 : Logic 𝓤) (R : RattleType) → Bor (List R.Denot) → Lft → Share → Share → Item 𝓤
looking 𝓛 R x κ q s = Shut 𝓛 κ q (shared_elements R x s x.now)

module _ {M : Type 1} {𝓤 : Ura M} {𝓛 : Logic 𝓤} {K : Type 0} {Γ : List (Item 𝓤)} {G : Goal 𝓤 𝓛.H} (t : K) where
  open 𝓛 use {A}

  pub opened : Soaks G → (R : RattleType) (ℓ : Lifetime) {κ : Lft} {q : Share} (x : MutBor (List R.Denot)) (vs : List Val) {P : Fml}
      → Step K 𝓛 (‵ (elements R x full_share x.now) ∷ ‵ (opening R x κ q) ∷ ‵ (noted R x) ∷ ‵ (known R x) ∷ Γ) G
      ((‵ (flft κ q) ⊛ ‵ ftrue) ∷ ‵ (fsep ((MutSlice ℓ κ R).own_val x vs) P) ∷ Γ) G
  opened z R ℓ x vs = step (λ s. split t $ move t (2 ∷ []) $ fsplit t $ fsplit t $ drop t $ fsplit t $ move t (0 ∷ 1 ∷ 3 ∷ []) $
      opens_slice t z R x.now x.ref_ptr.0 x.ref_ptr.1 $ move t (4 ∷ 5 ∷ []) $ drop t $ drop t $ s)

  pub closed : Soaks G → (R : RattleType) (ℓ : Lifetime) {κ : Lft} {q : Share} {n : ℕ} (ss : List (Slot n)) (x : MutBor (List R.Denot))
      (zs : List R.Denot) → length zs ≡ length x.now → Room R (length x.now)
      → Step K 𝓛 ((‵ (flft κ q) ⊛ ‵ ftrue) ∷ ‵ (fsep ((MutSlice ℓ κ R).own_val (at_last x zs) (mut_slice_vals x)) (nothings ss)) ∷ Γ) G
      (‵ (elements R x full_share zs) ∷ ‵ (opening R x κ q) ∷ ‵ (noted R x) ∷ ‵ (known R x) ∷ Γ) G
  closed z R ℓ ss x zs e g = step (λ s. closes_slice t z R x.now zs e x.ref_ptr.0 x.ref_ptr.1 $ fjoin t $
      pure_i t (mut_slice_at R (at_last x zs) (mut_slice_vals x)) (tt, (tt, tt)) (ap (λ (m : ℕ). slice_val x.ref_ptr m ∷ []) (sym e), subst (Room R) (sym e) g) $
      fjoin t $
      use0 𝓛 (‵ (nothings ss)) (had 𝓛 ss) $ move t (1 ∷ 0 ∷ []) $ fjoin t $ nothing t $ move t (2 ∷ 0 ∷ []) $ join t $ s)

  -- a `&mut [T]` is given up as it is
  pub given_up : (R : RattleType) (ℓ : Lifetime) {κ : Lft} (x : MutBor (List R.Denot)) (vs : List Val)
      → Step K 𝓛 (‵ (finally R x.ghost_name x.now) ∷ Γ) G (‵ ((MutSlice ℓ κ R).own_val x vs) ∷ Γ) G
  given_up R ℓ {κ} x vs = step (λ s. fsplit t $ move t (1 ∷ []) $ fsplit t $
      use1 𝓛 (‵ (fres x.ghost_name ((coded_holeys R).code (heres R x.now)))) (𝓛.names.obs-res x.ghost_name ((coded_holeys R).code (heres R x.now))) $
      use1 𝓛 (‵ (finally R x.ghost_name x.now)) (res-finally 𝓛 ℓ κ R x.ghost_name x.now) $ move t (1 ∷ 2 ∷ []) $ drop t $ drop t $ s)

  -- a `&mut [T]` that a callee was given for good: what the callee says of its last list, and nothing of the other parameters
  pub spent : (R : RattleType) {γ : GName} {zs : List R.Denot} {m n : ℕ} {P : Fml} (ss : List (Slot n))
      → (length zs ≡ m → Seq K 𝓛 (‵ (fsep (finally R γ zs) (nothings ss)) ∷ Γ) G)
      → Seq K 𝓛 (‵ (fsep (fsep (finally R γ zs) (feq ℕ (length zs) m)) P) ∷ Γ) G
  spent R ss k = fsplit t $ fsplit t $ move t (1 ∷ 2 ∷ []) $ feq_l t (λ long. drop t $ use0 𝓛 (‵ (nothings ss)) (had 𝓛 ss) $ move t (1 ∷ 0 ∷ []) $
      fjoin t $ k long)

  pub looked : Soaks G → {R : RattleType} → Copied 𝓛 R → (ℓ : Lifetime) {κ : Lft} {q : Share} (x : Bor (List R.Denot))
      (vs : List Val) {P : Fml}
      → ((s : Share) → Seq K 𝓛 (‵ (shared_elements R x s x.now) ∷ looking 𝓛 R x κ q s ∷ Γ) G)
      → Seq K 𝓛 ((‵ (flft κ q) ⊛ ‵ ftrue) ∷ ‵ (fsep ((ShrSlice ℓ κ R).own_val x vs) P) ∷ Γ) G
  looked z {R} c ℓ x vs k = split t $ move t (2 ∷ []) $ fsplit t $ fsplit t $ drop t $ move t (0 ∷ 2 ∷ []) $
      looks_slice t z R c x.now x.ref_ptr.0 x.ref_ptr.1 (λ s. move t (2 ∷ 3 ∷ 4 ∷ []) $ drop t $ drop t $ drop t $ k s)

  -- and what the function ends with, of tokens
  pub shut : Soaks G → (R : RattleType) {κ : Lft} {q : Share} (s : Share) (x : Bor (List R.Denot))
      → Step K 𝓛 ((‵ (flft κ q) ⊛ ‵ ftrue) ∷ Γ) G (‵ (shared_elements R x s x.now) ∷ looking 𝓛 R x κ q s ∷ Γ) G
  shut z R s x = step (λ k. shuts_slice t z R s x.now x.ref_ptr.0 x.ref_ptr.1 $ nothing t $ move t (1 ∷ 0 ∷ []) $ join t $ k)

  pub copied : (R : RattleType) → RowLaws R → (ℓ : Lifetime) (κ : Lft) (x : Bor (List R.Denot)) (vs : List Val)
      → Step K 𝓛 (‵ ((ShrSlice ℓ κ R).own_val x vs) ∷ ‵ ((ShrSlice ℓ κ R).own_val x vs) ∷ Γ) G (‵ ((ShrSlice ℓ κ R).own_val x vs) ∷ Γ) G
  copied R L ℓ κ x vs = step (λ s. use1 𝓛 (‵ ((ShrSlice ℓ κ R).own_val x vs) ⊛ ‵ ((ShrSlice ℓ κ R).own_val x vs)) ((shr_slice_copy 𝓛 ℓ κ R L).twice x vs) $
      split t $ s)

  -- ---- an element in its place
  pub taken : {R : RattleType} (p : Plain R) (q : Share) (ys : List R.Denot) (i : ℕ) (d : R.Denot) (b o : ℕ) → i < length ys
      → (Is R (get_or ys i d) (p.spelled.val (get_or ys i d) ∷ []) → Seq K 𝓛 (‵ (cell_at q R.mir (p.spelled.val (get_or ys i d) ∷ []) b
      (i * (mem R).size + o)) ∷ ‵ (others (shares R) q ys i b o) ∷ Γ) G)
      → Seq K 𝓛 (‵ (row R q ys b o) ∷ Γ) G
  taken {R} p q ys i d b o l k = elem_out t R (Is R) (shows 𝓛 R) (λ e. p.spelled.val e ∷ []) p.spelled.tells q ys i d b o l
      (λ is. move t (1 ∷ []) $ drop t $
      rewrite t 0 (λ (j : ℕ). ‵ (cell_at q R.mir (p.spelled.val (get_or ys i d) ∷ []) b j)) (place_is (mem R).size o i) refl $ k is)

  pub put_back : {R : RattleType} (p : Plain R) (q : Share) (ys : List R.Denot) (i : ℕ) (d : R.Denot) (b o : ℕ) → i < length ys
      → Is R (get_or ys i d) (p.spelled.val (get_or ys i d) ∷ [])
      → Step K 𝓛 (‵ (row R q ys b o) ∷ Γ) G (‵ (cell_at q R.mir (p.spelled.val (get_or ys i d) ∷ []) b (i * (mem R).size + o)) ∷ ‵
      (others (shares R) q ys i b o) ∷ Γ) G
  put_back {R} p q ys i d b o l is = step (λ s. rewrite t 0 (λ (j : ℕ). ‵ (cell_at q R.mir (p.spelled.val (get_or ys i d) ∷ []) b j))
      (sym (place_is (mem R).size o i)) refl $
      owned t R (Is R) (p.makes 𝓛) (get_or ys i d) (p.spelled.val (get_or ys i d) ∷ []) is $ move t (1 ∷ 0 ∷ []) $
      elem_back t R q ys i d (p.spelled.val (get_or ys i d) ∷ []) b o l $ s)

  pub put_new : {R : RattleType} (p : Plain R) (ys : List R.Denot) (i : ℕ) (y : R.Denot) (b o : ℕ) → i < length ys
      → Is R y (p.spelled.val y ∷ [])
      → Step K 𝓛 (‵ (row R full_share (set ys i y) b o) ∷ Γ) G (‵ (cell_at full_share R.mir (p.spelled.val y ∷ []) b (i * (mem R).size + o)) ∷ ‵
      (others (shares R) full_share ys i b o) ∷ Γ) G
  put_new {R} p ys i y b o l is = step (λ s. rewrite t 0 (λ (j : ℕ). ‵ (cell_at full_share R.mir (p.spelled.val y ∷ []) b j))
      (sym (place_is (mem R).size o i)) refl $
      owned t R (Is R) (p.makes 𝓛) y (p.spelled.val y ∷ []) is $ move t (1 ∷ 0 ∷ []) $
      elem_put t R full_share ys i y (p.spelled.val y ∷ []) b o l $ s)

  -- ---- lent again for a call
  pub lent_again : Soaks G → (R : RattleType) → ((ν : ℕ) → Shares 𝓛 R (ν ∷ [])) → (ℓ : Lifetime) (x : MutBor (List R.Denot)) → Room R (length x.now)
      → ((ν : ℕ) → Seq K 𝓛 (‵ ((ShrSlice ℓ (ν ∷ []) R).own_val (as_bor x) (shr_slice_vals (as_bor x))) ∷
      (‵ (flft (ν ∷ []) full_share) ⊛ ‵ ftrue) ∷ ‵ (flent (ν ∷ []) (part_of R x full_share)) ∷ Γ) G)
      → Seq K 𝓛 (‵ (elements R x full_share x.now) ∷ Γ) G
  lent_again z R sh ℓ x g k = feq_i t ℕ (length x.now) (length x.now) refl $ fjoin t $ lft_new t z (λ ν. move t (1 ∷ 0 ∷ []) $
      use2 𝓛 (later ((‵ ((ShrSlice ℓ (ν ∷ []) R).own_val (as_bor x) (shr_slice_vals (as_bor x))) ⊛ ‵ (flent (ν ∷ []) (part_of R x full_share))) ⊛
      ‵ (flft (ν ∷ []) full_share)))
      (lends_shr_slice 𝓛 R ℓ (ν ∷ []) full_share x.now x.ref_ptr.0 x.ref_ptr.1 g (ν ∷ []) (sh ν) ((ν ∷ [], full_share) ∷ []) (Incl-refl (ν ∷ []))
      (Incl-refl (ν ∷ []))) $ await t z $ split t $ split t $ nothing t $ move t (3 ∷ 0 ∷ []) $ join t $ move t (1 ∷ []) $ k ν)

  pub back_again : Soaks G → (R : RattleType) (x : MutBor (List R.Denot)) {ν : ℕ} {P : Fml}
      → Step K 𝓛 (‵ (elements R x full_share x.now) ∷ Γ) G (raw (sep 𝓤 (A.lft (ν ∷ []) full_share) (emp 𝓤)) ∷ ‵ P ∷ ‵
      (flent (ν ∷ []) (part_of R x full_share)) ∷ Γ) G
  back_again z R x {ν} = step (λ s. use1 𝓛 (‵ (flft (ν ∷ []) full_share) ⊛ ‵ ftrue) (id⊢ 𝓤 _) $ split t $ lft_end t z $ move t (0 ∷ 3 ∷ []) $
      lent_back t z $ fsplit t $ move t (2 ∷ 3 ∷ []) $ drop t $ drop t $ drop t $ s)

  pub lent_mut : Soaks G → (R : RattleType) (ℓ : Lifetime) (x : MutBor (List R.Denot)) → Room R (length x.now)
      → ((ν : ℕ) (δ : GName) → Seq K 𝓛 (‵ ((MutSlice ℓ (ν ∷ []) R).own_val (record { ref_ptr = x.ref_ptr; ghost_name = δ; now = x.now }) (mut_slice_vals x)) ∷ ‵
      (flft (ν ∷ []) full_share) ∷ ‵ (flent (ν ∷ []) (Held R (length x.now) x.ref_ptr.0 x.ref_ptr.1 δ)) ∷ Γ) G)
      → Seq K 𝓛 (‵ (elements R x full_share x.now) ∷ Γ) G
  lent_mut z R ℓ x g k = use1 𝓛 (‵ (cells (mem R) x.now x.ref_ptr.0 x.ref_ptr.1)) (whole_in 𝓛 R x.now x.ref_ptr.0 x.ref_ptr.1) $
      lft_new t z (λ ν. move t (1 ∷ []) $
      use1 𝓛 (later (some (λ (δ : GName). ‵ ((MutSlice ℓ (ν ∷ []) R).own_val (record { ref_ptr = x.ref_ptr; ghost_name = δ; now = x.now }) (mut_slice_vals x)) ⊛ ‵
      (flent (ν ∷ []) (Held R (length x.now) x.ref_ptr.0 x.ref_ptr.1 δ)))))
      (lends_slice 𝓛 R ℓ (ν ∷ []) x.now x.ref_ptr.0 x.ref_ptr.1 g) $ await t z $ pick t (λ δ. split t $ move t (0 ∷ 2 ∷ []) $ k ν δ))

  pub back_mut : Soaks G → (R : RattleType) (x : MutBor (List R.Denot)) (zs : List R.Denot) {ν m : ℕ} {δ : GName} {P : Fml}
      → Step K 𝓛 (‵ (elements R x full_share zs) ∷ Γ) G (‵ (flft (ν ∷ []) full_share) ∷ ‵ (fsep (fsep (finally R δ zs) (feq ℕ (length zs) m)) P) ∷ ‵
      (flent (ν ∷ []) (Held R (length x.now) x.ref_ptr.0 x.ref_ptr.1 δ)) ∷ Γ) G
  back_mut z R x zs {ν} {δ = δ} = step (λ s. lft_end t z $ move t (1 ∷ []) $ fsplit t $ fsplit t $ move t (1 ∷ 2 ∷ []) $ drop t $ drop t $
      -- the last list; that ν is over; the lender's part
      move t (2 ∷ 0 ∷ []) $ join t $ move t (1 ∷ 0 ∷ []) $
      use2 𝓛 (later (‵ ((Arr (mem R) (length x.now)).own_at zs x.ref_ptr.0 x.ref_ptr.1)))
      (slice_back 𝓛 R (ν ∷ []) δ zs (length x.now) x.ref_ptr.0 x.ref_ptr.1) $ await t z $ fsplit t $ drop t $
      use1 𝓛 (‵ (elements R x full_share zs)) (whole_out 𝓛 R zs x.ref_ptr.0 x.ref_ptr.1) $ s)

pub opened_first : {M : Type 1} {𝓤 : Ura M} {𝓛 : Logic 𝓤} {K : Type 0} {Γ : List (Item 𝓤)} {G : Goal 𝓤 𝓛.H} → K
    → Soaks G → (R : RattleType) (ℓ : Lifetime) {κ : Lft} {q : Share} {i : Item 𝓤} (x : MutBor (List R.Denot)) (vs : List Val)
    → Step K 𝓛 (‵ (elements R x full_share x.now) ∷ ‵ (opening R x κ q) ∷ ‵ (noted R x) ∷ ‵ (known R x) ∷ i ∷ Γ) G
    ((‵ (flft κ q) ⊛ i) ∷ ‵ ((MutSlice ℓ κ R).own_val x vs) ∷ Γ) G
opened_first t z R ℓ x vs = step (λ s. split t $ nothing t $ move t (1 ∷ 0 ∷ []) $ join t $ nothing t $ move t (3 ∷ 0 ∷ []) $ fjoin t $
    move t (1 ∷ 0 ∷ []) $ opened t z R ℓ x vs $ s)
