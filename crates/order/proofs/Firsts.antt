-- Keeping what comes before what is held keeps the first of those that none comes before
use Rattle.std.proofs.Common.{◌≡◌, ℕ, ◌+◌, ◌<◌, Bool, true, false, cond, ◌⊎◌, List, [], ◌∷◌, ◌++◌, length, get_or, take, Some, Option, sym, refl, ap, ◌∙◌, subst, inl, inr, ⊎_elim, append_assoc, append-nil, MatchOption}
use Rattle.std.proofs.lemmas.List.{take_more}
use Rattle.order.specs.Foremost.{held, foremost, offered, In, First}

clash : true ≡ false → ⊥
clash e = cc

-- an order on the proper items, of which two may tie
pub record Lawful {A : Type 0} (before : A → A → Bool) (proper : A → Type 0) : Type 0 where
  pub irreflexive : (x : A) → before x x ≡ false
  pub transitive : (x y z : A) → proper x → proper y → proper z → before x y ≡ true → before y z ≡ true → before x z ≡ true
  pub alike : (x y z : A) → proper x → proper y → proper z → before x y ≡ false → before y x ≡ false → (before x z ≡ before y z) × (before z x ≡ before z y)

-- the same order on what has such an item
pub lawful_by : {A B : Type 0} (item : B → A) {before : A → A → Bool} {proper : A → Type 0} → Lawful before proper → Lawful (λ x y. before (item x) (item y)) (λ x. proper (item x))
lawful_by item l =
    record {
      irreflexive = λ x. l.irreflexive (item x);
      transitive = λ x y z. l.transitive (item x) (item y) (item z);
      alike = λ x y z. l.alike (item x) (item y) (item z);
    }

-- ---- membership
pub in_front : {A : Type 0} (y : A) (xs ys : List A) → In y xs → In y (xs ++ ys)
in_front y [] ys i = elim i [ ]
in_front y (x ∷ xs) ys (inl e) = inl e
in_front y (x ∷ xs) ys (inr i) = inr (in_front y xs ys i)

pub in_back : {A : Type 0} (y : A) (xs ys : List A) → In y ys → In y (xs ++ ys)
in_back y [] ys i = i
in_back y (x ∷ xs) ys i = inr (in_back y xs ys i)

pub in_either : {A : Type 0} (y : A) (xs ys : List A) → In y (xs ++ ys) → In y xs ⊎ In y ys
in_either y [] ys i = inr i
in_either y (x ∷ xs) ys (inl e) = inl (inl e)
in_either y (x ∷ xs) ys (inr i) = ⊎_elim (λ j. inl (inr j)) (λ j. inr j) (in_either y xs ys i)

pub first_in : {A : Type 0} {before : A → A → Bool} {all : List A} {w : A} → First before all w → In w all
first_in {w = w} f = subst (λ (l : List _). In w l) (sym f.place) (in_back w f.front (w ∷ f.back) (inl refl))

-- ---- offers, one by one
held_more : {A : Type 0} (before : A → A → Bool) (x : A) (xs : List A) (y : A) → held before x (xs ++ y ∷ []) ≡ (let z = held before x xs in cond (before y z) y z)
held_more before x [] y = refl
held_more before x (z ∷ zs) y = held_more before (cond (before z x) z x) zs y

pub foremost_more : {A : Type 0} (before : A → A → Bool) (xs : List A) (y : A) → offered before (foremost before xs) y ≡ foremost before (xs ++ y ∷ [])
foremost_more before [] y = refl
foremost_more before (x ∷ xs) y = ap Some (sym (held_more before x xs y))

-- the same, along a row: h was held before x was offered, and h' after
pub foremost_next : {A : Type 0} (before : A → A → Bool) (xs : List A) (i : ℕ) (x : A) (h h' : Option A) → i < length xs → x ≡ get_or xs i x
    → h ≡ foremost before (take i xs) → h' ≡ offered before h x → h' ≡ foremost before (take (i + 1) xs)
foremost_next before xs i x h h' within read was is =
    let pushed : take (i + 1) xs ≡ take i xs ++ x ∷ [] = take_more xs i x within ∙ ap (λ y. take i xs ++ y ∷ []) (sym read) in
    is ∙ ap (λ o. offered before o x) was ∙ foremost_more before (take i xs) x ∙ sym (ap (foremost before) pushed)

-- ---- what is held in the end
module _ {A : Type 0} (before : A → A → Bool) (proper : A → Type 0) (lawful : Lawful before proper) where
  abbrev pub Proper : List A → Type 0
  Proper xs = (y : A) → In y xs → proper y

  pub not_both : (x y : A) → proper x → proper y → before x y ≡ true → before y x ≡ false
  not_both x y px py h =
      let P : Bool → Type 0 = λ b. before y x ≡ b → before y x ≡ false in
      elim (before y x) as P [
        | true ↦ λ k. absurd (clash (sym (lawful.transitive x y x px py px h k) ∙ lawful.irreflexive x))
        | false ↦ λ k. k
      ] refl

  -- what comes before h comes before all that h is level with or comes before
  beats : (x y h : A) → proper x → proper y → proper h → before x h ≡ true → before y h ≡ false → before x y ≡ true
  beats x y h px py ph wins level =
      let P : Bool → Type 0 = λ b. before h y ≡ b → before x y ≡ true in
      elim (before h y) as P [
        | true ↦ λ k. lawful.transitive x h y px ph py wins k
        | false ↦ λ k. (lawful.alike y h x py ph px level k).1 ∙ wins
      ] refl

  module _ (seen : List A) (h x : A) (all : Proper (seen ++ x ∷ [])) (l : First before seen h) where
    px : proper x
    px = all x (in_back x seen (x ∷ []) (inl refl))

    ph : proper h
    ph = all h (in_front h seen (x ∷ []) (first_in l))

    wins : before x h ≡ true → First before (seen ++ x ∷ []) x
    wins w =
        record {
          front = seen;
          back = [];
          place = refl;
          none_before = λ y i. ⊎_elim (λ j. not_both x y px (all y i) (over y j)) (⊎_elim (λ e. subst (λ (v : A). before v x ≡ false) (sym e) (lawful.irreflexive x)) (λ j. absurd j)) (in_either y seen (x ∷ []) i);
          is_first = over;
        }
      where
        over : (y : A) → In y seen → before x y ≡ true
        over y j = beats x y h px (all y (in_front y seen (x ∷ []) j)) ph w (l.none_before y j)

    loses : before x h ≡ false → First before (seen ++ x ∷ []) h
    loses w =
        record {
          front = l.front;
          back = l.back ++ x ∷ [];
          place = ap (λ v. v ++ x ∷ []) l.place ∙ append_assoc l.front (h ∷ l.back) (x ∷ []);
          none_before = λ y i. ⊎_elim (λ j. l.none_before y j) (⊎_elim (λ e. subst (λ (v : A). before v h ≡ false) (sym e) w) (λ j. absurd j)) (in_either y seen (x ∷ []) i);
          is_first = l.is_first;
        }

  go : (xs seen : List A) (h : A) → Proper (seen ++ xs) → First before seen h → First before (seen ++ xs) (held before h xs)
  go [] seen h all l = subst (λ (v : List A). First before v h) (sym (append-nil seen)) l
  go (x ∷ xs) seen h all l =
      let more : seen ++ x ∷ xs ≡ (seen ++ x ∷ []) ++ xs = sym (append_assoc seen (x ∷ []) xs) in
      let all' : Proper ((seen ++ x ∷ []) ++ xs) = subst Proper more all in
      let some : Proper (seen ++ x ∷ []) = λ y i. all' y (in_front y (seen ++ x ∷ []) xs i) in
      let P : Bool → Type 0 = λ b. before x h ≡ b → First before (seen ++ x ∷ xs) (held before (cond b x h) xs) in
      elim (before x h) as P [
        | true ↦ λ w. subst (λ (v : List A). First before v (held before x xs)) (sym more) (go xs (seen ++ x ∷ []) x all' (wins seen h x some l w))
        | false ↦ λ w. subst (λ (v : List A). First before v (held before h xs)) (sym more) (go xs (seen ++ x ∷ []) h all' (loses seen h x some l w))
      ] refl

  pub held_first : (x : A) (xs : List A) → Proper (x ∷ xs) → First before (x ∷ xs) (held before x xs)
  held_first x xs all = go xs (x ∷ []) x all
      (record { front = []; back = []; place = refl; none_before = λ y. ⊎_elim (λ e. subst (λ (v : A). before v x ≡ false) (sym e) (lawful.irreflexive x)) (λ j. absurd j); is_first = λ y i. absurd i })

  -- of a list that is not empty, the foremost is there, and is the first that none comes before
  pub foremost_is : (xs : List A) (x : A) → In x xs → Proper xs → (w : A) × (foremost before xs ≡ Some w) × First before xs w
  foremost_is [] x i all = absurd i
  foremost_is (y ∷ ys) x i all = (held before y ys, refl, held_first y ys all)

  pub foremost_first : (xs : List A) (w : A) → Proper xs → foremost before xs ≡ Some w → First before xs w
  foremost_first [] w all e = cc
  foremost_first (x ∷ xs) w all e =
      let same : held before x xs ≡ w = cc in
      subst (λ (v : A). First before (x ∷ xs) v) same (held_first x xs all)

  -- where no two different items are level, it is the one that none comes before
  pub foremost_only : (xs : List A) (w : A) → Proper xs → In w xs → ((y : A) → In y xs → before y w ≡ false)
      → ((y : A) → In y xs → before y w ≡ false → before w y ≡ false → y ≡ w) → foremost before xs ≡ Some w
  foremost_only xs w all i none sole =
      let (z, e, f) = foremost_is xs w i all in
      e ∙ ap Some (sole z (first_in f) (none z (first_in f)) (f.none_before w i))

  -- the same of what may be empty
  pub foremost_cases : (xs : List A) → Proper xs → MatchOption (foremost before xs) (xs ≡ []) (λ w. First before xs w)
  foremost_cases [] all = refl
  foremost_cases (x ∷ xs) all = held_first x xs all
