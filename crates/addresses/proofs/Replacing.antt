-- Rows of which a part is replaced: what `slice_get`, `set` and `without` have to do with `Replaced`, and what stays true.
--     replaced_set, replaced_without    `set` replaces one, and `without` takes it away
--     replaced_nth, set_replaced, without_replaced    and nothing else does
--     replaced_all, replaced_old, replaced_new    what holds of each of a row, of each new one, or of each old one
--     replaced_length, replaced_sum     lengths and sums
-- Assumes nothing.
use Rattle.std.proofs.Common.{◌≡◌, ℕ, zero, suc, ◌+◌, ◌<◌, List, [], ◌∷◌, ◌++◌, length, take, drop, set, Some, sum_by, sym, refl, ap, ◌∙◌, subst, arith}
use Rattle.std.proofs.ByRecursion.{All-append}
use Rattle.std.proofs.lemmas.List.{length-append, length-take-le, set_split, set_at}
use Rattle.std.proofs.lemmas.List.Sums.{sum_by-append}
use Rattle.std.specs.List.{remove as without, AllByRecursion as Every, slice_get}
use Rattle.addresses.specs.Changes.{Replaced}
use Rattle.addresses.proofs.Rows.{all_split}

module _ {X : Type 0} where
  -- ── what stands at a place ──

  pub nth_split : (xs : List X) (i : ℕ) (x : X) → slice_get xs i ≡ Some x → (i < length xs) × (xs ≡ take i xs ++ x ∷ drop (suc i) xs)
  nth_split [] i x e = cc
  nth_split (y ∷ xs) zero x e = (omega arith, ap (λ z. z ∷ xs) (cc))
  nth_split (y ∷ xs) (suc i) x e = let s = nth_split xs i x e in (omega (arith, s.0), ap (λ l. y ∷ l) s.1)

  nth_at : (us : List X) (x : X) (vs : List X) → slice_get (us ++ x ∷ vs) (length us) ≡ Some x
  nth_at [] x vs = refl
  nth_at (u ∷ us) x vs = nth_at us x vs

  without_at : (us : List X) (x : X) (vs : List X) → without (us ++ x ∷ vs) (length us) ≡ us ++ vs
  without_at [] x vs = refl
  without_at (u ∷ us) x vs = ap (λ l. u ∷ l) (without_at us x vs)

  -- ── one is replaced ──

  module _ (xs : List X) (i : ℕ) (x : X) where
    pub replaced_set : (y : X) → slice_get xs i ≡ Some x → Replaced xs i (x ∷ []) (y ∷ []) (set xs i y)
    replaced_set y e =
        let s = nth_split xs i x e in
        record { before = take i xs; behind = drop (suc i) xs; place = length-take-le i xs (omega (arith, s.0)); was = s.1; is = set_split xs i y s.0 }

    pub replaced_without : slice_get xs i ≡ Some x → Replaced xs i (x ∷ []) [] (without xs i)
    replaced_without e =
        let s = nth_split xs i x e in
        record { before = take i xs; behind = drop (suc i) xs; place = length-take-le i xs (omega (arith, s.0)); was = s.1; is = refl }

    pub replaced_nth : {new ys : List X} → Replaced xs i (x ∷ []) new ys → slice_get xs i ≡ Some x
    replaced_nth r = rw (r.was, ← r.place) (nth_at r.before x r.behind)

    pub set_replaced : {ys : List X} (y : X) → Replaced xs i (x ∷ []) (y ∷ []) ys → ys ≡ set xs i y
    set_replaced y r = r.is ∙ sym (ap (λ l. set l i y) r.was ∙ set_at r.before x r.behind y i r.place)

    pub without_replaced : {ys : List X} → Replaced xs i (x ∷ []) [] ys → ys ≡ without xs i
    without_replaced r = r.is ∙ sym (ap (λ l. without l i) r.was ∙ ap (without (r.before ++ x ∷ r.behind)) (sym r.place) ∙ without_at r.before x r.behind)

  -- ── what holds of the parts ──

  pub replaced_all : (P : X → Type 0) {xs : List X} {i : ℕ} {old new ys : List X} → Replaced xs i old new ys → Every P xs → Every P new → Every P ys
  replaced_all P {old = old} {new = new} r a b =
      let h = all_split P r.before (old ++ r.behind) (subst (Every P) r.was a) in
      let t = all_split P old r.behind h.1 in
      subst (Every P) (sym r.is) (All-append P r.before (new ++ r.behind) h.0 (All-append P new r.behind b t.1))

  pub replaced_old : (P : X → Type 0) {xs : List X} {i : ℕ} {old new ys : List X} → Replaced xs i old new ys → Every P xs → Every P old
  replaced_old P {old = old} r a =
      let h = all_split P r.before (old ++ r.behind) (subst (Every P) r.was a) in
      (all_split P old r.behind h.1).0

  pub replaced_new : (P : X → Type 0) {xs : List X} {i : ℕ} {old new ys : List X} → Replaced xs i old new ys → Every P ys → Every P new
  replaced_new P r a = replaced_old P (record { before = r.before; behind = r.behind; place = r.place; was = r.is; is = r.was }) a

  pub replaced_length : {xs : List X} {i : ℕ} {old new ys : List X} → Replaced xs i old new ys → length ys + length old ≡ length xs + length new
  replaced_length {old = old} {new = new} r =
      omega (
        arith,
        ap length r.was,
        ap length r.is,
        length-append r.before (old ++ r.behind),
        length-append old r.behind,
        length-append r.before (new ++ r.behind),
        length-append new r.behind,
      )

  pub replaced_sum : (f : X → ℕ) {xs : List X} {i : ℕ} {old new ys : List X} → Replaced xs i old new ys → sum_by f ys + sum_by f old ≡ sum_by f xs + sum_by f new
  replaced_sum f {old = old} {new = new} r =
      omega (
        arith,
        ap (sum_by f) r.was,
        ap (sum_by f) r.is,
        sum_by-append f r.before (old ++ r.behind),
        sum_by-append f old r.behind,
        sum_by-append f r.before (new ++ r.behind),
        sum_by-append f new r.behind,
      )
