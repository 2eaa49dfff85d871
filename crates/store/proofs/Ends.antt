-- The last entry of a list.
--     ends_at, last_joined_at    the words of `Edits` where the last entry is known
--     ends_is, last_joined_is    the same by the last place
-- Assumes nothing.
use Rattle.std.proofs.Common.{◌≡◌, ◌-◌, ◌⊎◌, List, [], ◌∷◌, ◌++◌, length, Some, sym, refl, ap, ◌∙◌, inl, inr, arith}
use Rattle.std.specs.Option.{option_map}
use Rattle.std.specs.List.{slice_get}
use Rattle.std.proofs.lemmas.List.{length_push, get_or_push, set_at}
use Rattle.std.proofs.lemmas.Option.{slice_get-get_or}
use Rattle.addresses.specs.Mailboxes.{Mailbox, Entry}
use Rattle.store.specs.Edits.{is_group, with_member, ends_in_group, last_joined, some_group, has_group, replaced, joined_at}

pub ends_at : (es : List Entry) (e : Entry) → ends_in_group (es ++ e ∷ []) ≡ is_group e
ends_at [] e = refl
ends_at (a ∷ []) e = refl
ends_at (a ∷ b ∷ es) e = ends_at (b ∷ es) e

pub last_joined_at : (es : List Entry) (e : Entry) (m : Mailbox) → last_joined (es ++ e ∷ []) m ≡ es ++ with_member e m ∷ []
last_joined_at [] e m = refl
last_joined_at (a ∷ []) e m = refl
last_joined_at (a ∷ b ∷ es) e m = ap (λ l. a ∷ l) (last_joined_at (b ∷ es) e m)

-- a list has no entry, or a last one
last_entry : (l : List Entry) → (l ≡ []) ⊎ ((es : List Entry) × (e : Entry) × (l ≡ es ++ e ∷ []))
last_entry [] = inl refl
last_entry (e ∷ l) =
    elim (last_entry l) [
      | inl none ↦ inr ([], e, ap (λ x. e ∷ x) none)
      | inr (es, f, is) ↦ inr (e ∷ es, f, ap (λ x. e ∷ x) is)
    ]

module _ (es : List Entry) (e : Entry) where
  last_place : length es ≡ length (es ++ e ∷ []) - 1
  last_place = omega (arith, length_push es e)

  last_is : slice_get (es ++ e ∷ []) (length (es ++ e ∷ []) - 1) ≡ Some e
  last_is =
      slice_get-get_or (es ++ e ∷ []) (length (es ++ e ∷ []) - 1) e (omega (arith, length_push es e))
      ∙ ap (λ x. Some x) (get_or_push es e e (length (es ++ e ∷ []) - 1) last_place)

pub ends_is : (l : List Entry) → ends_in_group l ≡ has_group l (length l - 1)
ends_is l =
    elim (last_entry l) [
      | inl is ↦ ap ends_in_group is ∙ ap (λ x. has_group x (length x - 1)) (sym is)
      | inr (es, e, is) ↦ ap ends_in_group is ∙ ends_at es e ∙ sym (ap some_group (last_is es e)) ∙ ap (λ x. has_group x (length x - 1)) (sym is)
    ]

pub last_joined_is : (l : List Entry) (m : Mailbox) → last_joined l m ≡ joined_at l (length l - 1) m
last_joined_is l m =
    elim (last_entry l) [
      | inl is ↦ ap (λ x. last_joined x m) is ∙ ap (λ x. joined_at x (length x - 1) m) (sym is)
      | inr (es, e, is) ↦
          ap (λ x. last_joined x m) is
          ∙ last_joined_at es e m
          ∙ sym (set_at es e [] (with_member e m) _ (last_place es e))
          ∙ ap (λ o. replaced (es ++ e ∷ []) (length (es ++ e ∷ []) - 1) (option_map (λ y. with_member y m) o)) (sym (last_is es e))
          ∙ ap (λ x. joined_at x (length x - 1) m) (sym is)
    ]
