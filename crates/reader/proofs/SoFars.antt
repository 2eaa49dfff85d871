-- A list whose last entry may be an open group.
--     all_of         as a whole it is the list itself
--     member_added   a mailbox is added to the open group
--     group_opened   a group is opened
-- Assumes nothing.
use Rattle.std.proofs.Common.{◌≡◌, ℕ, Bool, true, false, cond, ◌&&◌, List, [], ◌∷◌, ◌++◌, sym, refl, ap, subst, ◌∙◌}
use Rattle.addresses.specs.Limits.{within}
use Rattle.addresses.specs.Mailboxes.{Mailbox, Entry, loose, group}
use Rattle.addresses.specs.Steps.{SoFar, outside, inside, whole, finished}
use Rattle.store.specs.Edits.{ends_in_group, last_joined}
use Rattle.reader.specs.Drafts.{led_by, open_last, so_far, is_open}

led_whole : (e : Entry) (l : SoFar) → whole (led_by e l) ≡ e ∷ whole l
led_whole e (outside es) = refl
led_whole e (inside es n ms) = refl

whole_last : (es : List Entry) → whole (open_last es) ≡ es
whole_last [] = refl
whole_last (loose m ∷ []) = refl
whole_last (group n ms ∷ []) = refl
whole_last (e ∷ f ∷ es) = led_whole e (open_last (f ∷ es)) ∙ ap (λ l. e ∷ l) (whole_last (f ∷ es))

whole_of : (b : Bool) (es : List Entry) → whole (so_far b es) ≡ es
whole_of false es = refl
whole_of true es = whole_last es

pub all_of : (b : Bool) (es : List Entry) (l : SoFar) → so_far b es ≡ l → es ≡ whole l
all_of b es l is = sym (whole_of b es) ∙ ap whole is

opened_last : (es : List Entry) (n : List ℕ) (ms : List Mailbox) → open_last (es ++ group n ms ∷ []) ≡ inside es n ms
opened_last [] n ms = refl
opened_last (e ∷ []) n ms = refl
opened_last (e ∷ f ∷ es) n ms = ap (led_by e) (opened_last (f ∷ es) n ms)

ends : (es : List Entry) (n : List ℕ) (ms : List Mailbox) → ends_in_group (es ++ group n ms ∷ []) ≡ true
ends [] n ms = refl
ends (e ∷ []) n ms = refl
ends (e ∷ f ∷ es) n ms = ends (f ∷ es) n ms

joined : (es : List Entry) (n : List ℕ) (ms : List Mailbox) (m : Mailbox) → last_joined (es ++ group n ms ∷ []) m ≡ es ++ group n (ms ++ m ∷ []) ∷ []
joined [] n ms m = refl
joined (e ∷ []) n ms m = refl
joined (e ∷ f ∷ es) n ms m = ap (λ l. e ∷ l) (joined (f ∷ es) n ms m)

by_either : {X Y : Type 0} (f : X → Y) (b : Bool) (x y : X) → f (cond b x y) ≡ cond b (f x) (f y)
by_either f true x y = refl
by_either f false x y = refl

-- what a call leaves, as the list so far
pub record Left (b : Bool) (l would left : SoFar) (r : Bool) : Type 0 where
  pub fits : r ≡ within (whole would)
  pub after : left ≡ cond r would l
  pub opened : is_open left ≡ b

-- a member of the open group
member : (l : SoFar) (es after : List Entry) (m : Mailbox) (r : Bool) → open_last es ≡ l → is_open l ≡ true
    → r ≡ (ends_in_group es && within (last_joined es m)) → after ≡ cond r (last_joined es m) es → Left true l (finished m l) (open_last after) r
member (outside es) fs after m r is o f a = cc
member (inside es n ms) fs after m r is o f a =
    let old : fs ≡ es ++ group n ms ∷ [] = sym (whole_last fs) ∙ ap whole is in
    let new : last_joined fs m ≡ es ++ group n (ms ++ m ∷ []) ∷ [] = ap (λ l. last_joined l m) old ∙ joined es n ms m in
    let there : ends_in_group fs ≡ true = ap ends_in_group old ∙ ends es n ms in
    let left : open_last after ≡ cond r (inside es n (ms ++ m ∷ [])) (inside es n ms)
    = ap open_last a ∙ by_either open_last r (last_joined fs m) fs
    ∙ ap (λ l. cond r l (open_last fs)) (ap open_last new ∙ opened_last es n (ms ++ m ∷ []))
    ∙ ap (λ l. cond r (inside es n (ms ++ m ∷ [])) l) is in
    record {
      fits = f ∙ ap (λ b. b && within (last_joined fs m)) there ∙ ap within new;
      after = left;
      opened = ap is_open left ∙ by_either is_open r (inside es n (ms ++ m ∷ [])) (inside es n ms) ∙ either r;
    }
  where
    either : (b : Bool) → cond b true true ≡ true
    either true = refl
    either false = refl

pub member_added : (b : Bool) (es after : List Entry) (m : Mailbox) (r : Bool) (l : SoFar) → b ≡ true → so_far b es ≡ l → is_open (so_far b es) ≡ b
    → r ≡ (ends_in_group es && within (last_joined es m)) → after ≡ cond r (last_joined es m) es → Left b l (finished m l) (so_far b after) r
member_added true es after m r l t is o f a = member l es after m r is (subst (λ k. is_open k ≡ true) is o) f a
member_added false es after m r l t is o f a = cc

pub group_opened : (b : Bool) (es after : List Entry) (n : List ℕ) (l : SoFar) → so_far b es ≡ l → after ≡ es ++ group n [] ∷ [] → open_last after ≡ inside (whole l) n []
group_opened b es after n l is a = ap open_last a ∙ opened_last es n [] ∙ ap (λ k. inside k n []) (all_of b es l is)
