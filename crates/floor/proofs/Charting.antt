-- Placing keeps the points of a map in general position.
use Rattle.std.proofs.Common.{◌≡◌, ℕ, zero, suc, Bool, true, false, cond, not, eqb, leb, ◌≢◌, ◌⊎◌, List, [], ◌∷◌, ◌++◌, length, ℤ, pos, neg_ℤ, nat_abs, Some, Ok, Err, Option, sym, refl, ap, ◌∙◌, subst, inl, inr, ⊎_elim, arith}
use mathlib.Core.Logic.{∥∥₁_elim}
use mathlib.Core.HLevel.{Π_prop, ×_prop}
use native.Mathlib.Bridge.{le_prop}
use Rattle.std.proofs.lemmas.List.{length_push}
use Rattle.std.proofs.lemmas.Bool.{or_parts, and_parts, and_from, eq-eqb, leb-true, leb-false, both_ways}
use Rattle.plane.specs.declared.Point.{Point}
use Rattle.plane.specs.Plane.{turn, farthest, InRange}
use Rattle.plane.proofs.Vectors.{position}
use Rattle.plane.proofs.Facts.{turn_cycle, turn_swap}
use Rattle.floor.specs.declared.map.PlaceRefusal.TheVariants.{Full, OutOfRange, Occupied, OnALine}
use Rattle.std.specs.List.{slice_get, list_any}
use Rattle.floor.proofs.Lists.{no_place, none_is, get_push}
use Rattle.floor.specs.Position.{GeneralPosition}
use Rattle.floor.specs.declared.map.Map.{Map}
use Rattle.floor.specs.Map.{points_of}
use Rattle.floor.specs.Charted.{Charted}
use Rattle.floor.specs.Placing.{in_range, same, straight, on_a_line, placing}

turn_on : (a b c : Point) → turn a b c ≡ turn b c a
turn_on a b c = turn_cycle (position a) (position b) (position c)

turn_back : (a b c : Point) → turn a b c ≢ pos 0 → turn b a c ≢ pos 0
turn_back a b c h e = h (turn_swap (position b) (position a) (position c) ∙ ap neg_ℤ e)

bent_if : (a b c : Point) → straight a b c ≡ false → turn a b c ≢ pos 0
bent_if a b c h e = both_ways (straight a b c) h (ap (λ (z : ℤ). eqb (nat_abs z) 0) e)

same_itself : (p q : Point) → p ≡ q → same p q ≡ true
same_itself p q e = and_from (eqb p.x q.x) (eqb p.y q.y) (eq-eqb p.x q.x (ap (λ (z : Point). z.x) e)) (eq-eqb p.y q.y (ap (λ (z : Point). z.y) e))

apart_if : (p q : Point) → same p q ≡ false → p ≢ q
apart_if p q h e = both_ways (same p q) h (same_itself p q e)

range_of : (p : Point) → in_range p ≡ true → InRange p
range_of p h =
    let both = and_parts (leb p.x farthest) (leb p.y farthest) h in
    (leb-true p.x farthest both.0, leb-true p.y farthest both.1)

-- p is on no line with two of the points
off_lines : (ps : List Point) (p : Point) → on_a_line ps p ≡ false → (i j : ℕ) (a b : Point) → i ≢ j → slice_get ps i ≡ Some a → slice_get ps j ≡ Some b → turn a b p ≢ pos 0
off_lines [] p h i j a b ne s t = no_place i a s
off_lines (x ∷ ps) p h zero zero a b ne s t = absurd (ne refl)
off_lines (x ∷ ps) p h zero (suc j) a b ne s t =
    let first : x ≡ a = cc in
    let off = bent_if x b p (none_is (λ b. straight x b p) ps (or_parts _ _ h).0 j b t) in
    subst (λ (z : Point). turn z b p ≢ pos 0) first off
off_lines (x ∷ ps) p h (suc i) zero a b ne s t =
    let first : x ≡ b = cc in
    let off = turn_back x a p (bent_if x a p (none_is (λ b. straight x b p) ps (or_parts _ _ h).0 i a s)) in
    subst (λ (z : Point). turn a z p ≢ pos 0) first off
off_lines (x ∷ ps) p h (suc i) (suc j) a b ne s t = off_lines ps p (or_parts _ _ h).1 i j a b (λ e. ne (ap suc e)) s t

-- one more point, where nothing is against it
one_more : (ps : List Point) (p : Point) → Charted ps → leb 64 (length ps) ≡ false → in_range p ≡ true → list_any (same p) ps ≡ false → on_a_line ps p ≡ false → Charted (ps ++ p ∷ [])
one_more ps p charted room range free off = record {
  few = omega (arith, length_push ps p, leb-false 64 (length ps) room);
  general = record {
    in_range = λ i q e. ⊎_elim (λ old. old_one.in_range i q old) (λ new. subst InRange (sym new.1) new_in_range) (get_push ps p i q e);
    apart = λ i j q r ne s t. two i j q r ne (get_push ps p i q s) (get_push ps p j r t);
    bent = λ i j k q r s ij jk ik a b c. three i j k q r s ij jk ik (get_push ps p i q a) (get_push ps p j r b) (get_push ps p k s c);
  };
}
  where
    old_one : GeneralPosition (slice_get ps)
    old_one = charted.general

    new_in_range : InRange p
    new_in_range = range_of p range

    At : ℕ → Point → Type 0
    At i q = (slice_get ps i ≡ Some q) ⊎ ((i ≡ length ps) × (q ≡ p))

    new_apart : (i : ℕ) (q : Point) → slice_get ps i ≡ Some q → p ≢ q
    new_apart i q e = apart_if p q (none_is (same p) ps free i q e)

    two : (i j : ℕ) (q r : Point) → i ≢ j → At i q → At j r → q ≢ r
    two i j q r ne (inl s) (inl t) = old_one.apart i j q r ne s t
    two i j q r ne (inl s) (inr t) = λ e. new_apart i q s (sym (e ∙ t.1))
    two i j q r ne (inr s) (inl t) = λ e. new_apart j r t (sym s.1 ∙ e)
    two i j q r ne (inr s) (inr t) = absurd (ne (s.0 ∙ sym t.0))

    three : (i j k : ℕ) (q r s : Point) → i ≢ j → j ≢ k → i ≢ k → At i q → At j r → At k s → turn q r s ≢ pos 0
    three i j k q r s ij jk ik (inl a) (inl b) (inl c) = old_one.bent i j k q r s ij jk ik a b c
    three i j k q r s ij jk ik (inl a) (inl b) (inr c) = subst (λ (z : Point). turn q r z ≢ pos 0) (sym c.1) (off_lines ps p off i j q r ij a b)
    three i j k q r s ij jk ik (inl a) (inr b) (inl c) = λ e. off_lines ps p off k i s q (λ h. ik (sym h)) c a (ap (λ (z : Point). turn s q z) (sym b.1) ∙ turn_on s q r ∙ e)
    three i j k q r s ij jk ik (inr a) (inl b) (inl c) = λ e. off_lines ps p off j k r s jk b c (ap (λ (z : Point). turn r s z) (sym a.1) ∙ sym (turn_on q r s) ∙ e)
    three i j k q r s ij jk ik (inl a) (inr b) (inr c) = absurd (jk (b.0 ∙ sym c.0))
    three i j k q r s ij jk ik (inr a) (inl b) (inr c) = absurd (ik (a.0 ∙ sym c.0))
    three i j k q r s ij jk ik (inr a) (inr b) c = absurd (ij (a.0 ∙ sym b.0))

-- an answer with a number: nothing was against it
nothing_against : (a b c d : Bool) (n m : ℕ) → Ok n ≡ cond a (Err Full) (cond (not b) (Err OutOfRange) (cond c (Err Occupied) (cond d (Err OnALine) (Ok m)))) → (a ≡ false) × (b ≡ true) × (c ≡ false) × (d ≡ false)
nothing_against true b c d n m e = cc
nothing_against false false c d n m e = cc
nothing_against false true true d n m e = cc
nothing_against false true false true n m e = cc
nothing_against false true false false n m e = (refl, refl, refl, refl)

-- ps as they were asked about, and qs with p added
pub more_charted : (ps asked qs : List Point) (p : Point) (n : ℕ) → Charted ps → asked ≡ ps → Ok n ≡ placing asked p → qs ≡ ps ++ p ∷ [] → Charted qs
more_charted ps asked qs p n old seen e new =
    let said = e ∙ ap (λ rs. placing rs p) seen in
    let all = nothing_against (leb 64 (length ps)) (in_range p) (list_any (same p) ps) (on_a_line ps p) n (length ps) said in
    subst Charted (sym new) (one_more ps p old all.0 all.1 all.2 all.3)

-- two proofs that points are charted are one, so a map's invariant can be used
⊥-fact : {A : Type 0} → IsProp (¬ A)
⊥-fact = Π_prop (λ _ x y. absurd x)

general_prop : (at : ℕ → Option Point) → IsProp (GeneralPosition at)
general_prop at g h = λ i. record {
  in_range = Π_prop (λ _. Π_prop (λ _. Π_prop (λ _. ×_prop le_prop le_prop))) g.in_range h.in_range i;
  apart = Π_prop (λ _. Π_prop (λ _. Π_prop (λ _. Π_prop (λ _. Π_prop (λ _. Π_prop (λ _. Π_prop (λ _. ⊥-fact))))))) g.apart h.apart i;
  bent = Π_prop (λ _. Π_prop (λ _. Π_prop (λ _. Π_prop (λ _. Π_prop (λ _. Π_prop (λ _. Π_prop (λ _. Π_prop (λ _. Π_prop (λ _. Π_prop (λ _. Π_prop (λ _. Π_prop (λ _. ⊥-fact)))))))))))) g.bent h.bent i;
}

charted_prop : (ps : List Point) → IsProp (Charted ps)
charted_prop ps g h = λ i. record { few = le_prop g.few h.few i; general = general_prop (slice_get ps) g.general h.general i }

pub charted : (m : Map) → Charted (points_of m)
charted m = ∥∥₁_elim m.charted (charted_prop (points_of m)) (λ c. c)
