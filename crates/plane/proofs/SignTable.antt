-- The finite checks: ten signs of five sites a y u v o, o at infinity
use mathlib.Core.Path.{◌≡◌, refl, sym, subst}
use mathlib.Core.Bool.{Bool, true, false, cond, not}
use Rattle.plane.proofs.Sites.{xor, and, or, most}
use Rattle.plane.proofs.Signs.{eqB, mixed3, mixed4}

-- ---- Booleans
abbrev pub every : (Bool → Bool) → Bool
every f = and (f true) (f false)

pub and_both : {a b : Bool} → a ≡ true → b ≡ true → and a b ≡ true
and_both {a = a} {b = b} p q = subst (λ t. and t b ≡ true) (sym p) q

pub and_first : (a b : Bool) → and a b ≡ true → a ≡ true
and_first true b e = refl
and_first false b e = e

pub and_second : (a b : Bool) → and a b ≡ true → b ≡ true
and_second true b e = e
and_second false true e = refl
and_second false false e = e

pub at : (f : Bool → Bool) → every f ≡ true → (b : Bool) → f b ≡ true
at f e true = and_first (f true) (f false) e
at f e false = and_second (f true) (f false) e

pub follows : (r c : Bool) → or (not r) c ≡ true → r ≡ true → c ≡ true
follows true c e h = e
follows false true e h = refl
follows false false e h = h

pub no_or : (b c : Bool) → or b c ≡ true → b ≡ false → c ≡ true
no_or true true e h = refl
no_or true false e h = sym h
no_or false c e h = e

pub not_true : (b : Bool) → not b ≡ true → b ≡ false
not_true true h = sym h
not_true false h = refl

pub not_not : (b : Bool) → not (not b) ≡ b
not_not true = refl
not_not false = refl

-- two Booleans the same
abbrev pub same : Bool → Bool → Bool
same = eqB

pub same_is : (a b : Bool) → same a b ≡ true → a ≡ b
same_is true true e = refl
same_is true false e = sym e
same_is false true e = e
same_is false false e = refl

pub is_same : (a b : Bool) → a ≡ b → same a b ≡ true
is_same true b e = sym e
is_same false true e = e
is_same false false e = refl

-- checks of four and of five
pub at4 : (f : Bool → Bool → Bool → Bool → Bool) → every (λ a. every (λ b. every (λ c. every (λ d. f a b c d)))) ≡ true → (a b c d : Bool) → f a b c d ≡ true
at4 f t a b c d = at (λ d. f a b c d) (at (λ c. every (λ d. f a b c d)) (at (λ b. every (λ c. every (λ d. f a b c d))) (at (λ a. every (λ b. every (λ c. every (λ d. f a b c d)))) t a) b) c) d

pub at5 : (f : Bool → Bool → Bool → Bool → Bool → Bool) → every (λ a. every (λ b. every (λ c. every (λ d. every (λ e. f a b c d e))))) ≡ true → (a b c d e : Bool) → f a b c d e ≡ true
at5 f t a b c d e = at (λ e. f a b c d e) (at (λ d. every (λ e. f a b c d e)) (at (λ c. every (λ d. every (λ e. f a b c d e))) (at (λ b. every (λ c. every (λ d. every (λ e. f a b c d e)))) (at (λ a. every (λ b. every (λ c. every (λ d. every (λ e. f a b c d e))))) t a) b) c) d) e

-- a check of ten
abbrev pub Ten : Type 0
Ten = Bool → Bool → Bool → Bool → Bool → Bool → Bool → Bool → Bool → Bool → Bool

abbrev pub every10 : Ten → Bool
every10 f = every (λ a. every (λ b. every (λ c. every (λ d. every (λ e. every (λ g. every (λ h. every (λ i. every (λ j. every (λ k. f a b c d e g h i j k))))))))))

pub at10 : (f : Ten) → every10 f ≡ true → (a b c d e g h i j k : Bool) → f a b c d e g h i j k ≡ true
at10 f t a b c d e g h i j k =
    at (λ k. f a b c d e g h i j k)
    (at (λ j. every (λ k. f a b c d e g h i j k))
    (at (λ i. every (λ j. every (λ k. f a b c d e g h i j k)))
    (at (λ h. every (λ i. every (λ j. every (λ k. f a b c d e g h i j k))))
    (at (λ g. every (λ h. every (λ i. every (λ j. every (λ k. f a b c d e g h i j k)))))
    (at (λ e. every (λ g. every (λ h. every (λ i. every (λ j. every (λ k. f a b c d e g h i j k))))))
    (at (λ d. every (λ e. every (λ g. every (λ h. every (λ i. every (λ j. every (λ k. f a b c d e g h i j k)))))))
    (at (λ c. every (λ d. every (λ e. every (λ g. every (λ h. every (λ i. every (λ j. every (λ k. f a b c d e g h i j k))))))))
    (at (λ b. every (λ c. every (λ d. every (λ e. every (λ g. every (λ h. every (λ i. every (λ j. every (λ k. f a b c d e g h i j k)))))))))
    (at (λ a. every (λ b. every (λ c. every (λ d. every (λ e. every (λ g. every (λ h. every (λ i. every (λ j. every (λ k. f a b c d e g h i j k))))))))))
    t a) b) c) d) e) g) h) i) j) k

-- ---- the rules: ayu ayv ayo auv auo avo yuv yuo yvo uvo
unfoldable pub rules : Ten
rules ayu ayv ayo auv auo avo yuv yuo yvo uvo =
    and (mixed3 (eqB ayu avo) (not (eqB ayv auo)) (eqB ayo auv))
    (and (mixed3 (eqB (not ayu) yvo) (not (eqB (not ayv) yuo)) (eqB (not ayo) yuv))
    (and (mixed3 (eqB ayu uvo) (not (eqB (not auv) (not yuo))) (eqB (not auo) (not yuv)))
    (and (mixed3 (eqB ayv (not uvo)) (not (eqB auv (not yvo))) (eqB (not avo) yuv))
    (and (mixed3 (eqB ayo uvo) (not (eqB auo yvo)) (eqB avo yuo))
    (and (mixed4 (not ayu) ayv yuv (not auv))
    (and (mixed3 ayo yuo (not auo))
    (and (mixed3 ayo yvo (not avo))
    (and (mixed3 auo uvo (not avo))
    (mixed3 yuo uvo (not yvo))))))))))

-- the strip between a and y: what a dart u v adds is whether it crosses a y
unfoldable pub strip_claim : Ten
strip_claim ayu ayv ayo auv auo avo yuv yuo yvo uvo =
    or ayo (same
    (xor (and (not auo) (and yuo (not ayu))) (xor (and (not avo) (and yvo (not ayv)))
    (xor (cond (not uvo) (and auo (and (not avo) auv)) (and avo (and (not auo) (not auv))))
    (cond (not uvo) (and yuo (and (not yvo) yuv)) (and yvo (and (not yuo) (not yuv)))))))
    (and (xor ayu ayv) (xor auv yuv)))

-- corners at a, the link's other end y above a and not inside the corner u a v
unfoldable pub below_claim : Ten
below_claim ayu ayv ayo auv auo avo yuv yuo yvo uvo =
    or ayo (or (most ayu (not ayv) auv) (same
    (xor (and (not auo) (not ayu)) (and (not avo) (not ayv)))
    (most (not auo) avo auv)))

-- corners at a, the link's other end y below a and not inside the corner u a v
unfoldable pub above_claim : Ten
above_claim ayu ayv ayo auv auo avo yuv yuo yvo uvo =
    or (not ayo) (or (most ayu (not ayv) auv) (same
    (xor (and auo ayu) (and avo ayv))
    (most (not auo) avo auv)))

pub strip_table : every10 (λ a b c d e g h i j k. or (not (rules a b c d e g h i j k)) (strip_claim a b c d e g h i j k)) ≡ true
unfolding rules strip_claim
strip_table = refl

pub below_table : every10 (λ a b c d e g h i j k. or (not (rules a b c d e g h i j k)) (below_claim a b c d e g h i j k)) ≡ true
unfolding rules below_claim
below_table = refl

pub above_table : every10 (λ a b c d e g h i j k. or (not (rules a b c d e g h i j k)) (above_claim a b c d e g h i j k)) ≡ true
unfolding rules above_claim
above_table = refl

-- ---- the tables used
pub use_table : (c : Ten) → every10 (λ a b c' d e g h i j k. or (not (rules a b c' d e g h i j k)) (c a b c' d e g h i j k)) ≡ true
    → (a b c' d e g h i j k : Bool) → rules a b c' d e g h i j k ≡ true → c a b c' d e g h i j k ≡ true
use_table c t a b c' d e g h i j k r = follows (rules a b c' d e g h i j k) (c a b c' d e g h i j k)
    (at10 (λ a b c' d e g h i j k. or (not (rules a b c' d e g h i j k)) (c a b c' d e g h i j k)) t a b c' d e g h i j k) r
