-- A row of bytes that is accepted as a frame is the row of that frame.
use Rattle.std.proofs.Common.{◌≡◌, ℕ, zero, suc, ◌+◌, ◌-◌, ◌<◌, ◌%◌, cond, eqb, List, [], ◌∷◌, ◌++◌, length, drop, fold, sum, Ok, Result, sym, ap, ◌∙◌, ⊎_elim, arith}
use Rattle.std.proofs.lemmas.List.Elements.{All-get_or}
use Rattle.std.proofs.lemmas.List.{drop_more, drop_all}
use Rattle.std.proofs.lemmas.List.Sums.{sum_by-cons}
use Rattle.std.proofs.lemmas.Bool.Decides.{nat_tests, eqb_tells}
use Rattle.frame.specs.declared.fault.FrameFault.{FrameFault}
use Rattle.frame.specs.declared.Frame.{Frame}
use Rattle.frame.specs.Frames.{high, low, body, check, one, two, sized, by_kind}
use Rattle.frame.proofs.Spelling.{Bytes}

-- a sum that wraps at each byte is the check byte
wrapped_from : (bs : List ℕ) (a : ℕ) → a < 256 → fold (λ s b. (s + b) % 256) a bs ≡ (a + sum bs) % 256
wrapped_from [] a h = omega arith
wrapped_from (b ∷ bs) a h = omega (arith, wrapped_from bs ((a + b) % 256) (omega arith), sum_by-cons (λ x. x) b bs)

pub wrapped_sum : (bs : List ℕ) → fold (λ s b. (s + b) % 256) 0 bs ≡ check bs
wrapped_sum bs = omega (arith, wrapped_from bs 0 (omega arith))

-- a row is what stands at its places, n of them from place i on
abbrev places : List ℕ → ℕ → ℕ → List ℕ
places bs i zero = []
places bs i (suc n) = one bs i ∷ places bs (i + 1) n

listed_from : (bs : List ℕ) (n i : ℕ) → length bs ≡ i + n → drop i bs ≡ places bs i n
listed_from bs zero i e = drop_all i bs (omega arith)
listed_from bs (suc n) i e = drop_more bs i 0 (omega arith) ∙ ap (λ s. one bs i ∷ s) (listed_from bs n (i + 1) (omega arith))

listed : (bs : List ℕ) (n : ℕ) → length bs ≡ n → bs ≡ places bs 0 n
listed bs n e = listed_from bs n 0 (omega arith)

-- a number that two bytes make has those bytes
two_bytes : (bs : List ℕ) (i : ℕ) → Bytes bs → i + 1 < length bs → (high (two bs i) ≡ one bs i) × (low (two bs i) ≡ one bs (i + 1))
two_bytes bs i small h =
    let a = All-get_or (λ b. b < 256) bs i 0 (omega arith) small in
    let b = All-get_or (λ b. b < 256) bs (i + 1) 0 h small in
    (omega arith, omega arith)

-- the row is that of the frame, but for its last byte
abbrev pub RowOf : Frame → List ℕ → Type 0
RowOf f bs = bs ≡ body f ++ one bs (length bs - 1) ∷ []

-- the first of several kinds: the row is of this kind and its length, or it is accepted among the rest
first_kind :
    (bs : List ℕ) (k n : ℕ) (f g : Frame) (rest : Result Frame FrameFault) →
    (one bs 0 ≡ k → length bs ≡ n → places bs 0 n ≡ body f ++ one bs (n - 1) ∷ []) → (rest ≡ Ok g → RowOf g bs) →
    cond (eqb (one bs 0) k) (sized bs n f) rest ≡ Ok g → RowOf g bs
first_kind bs k n f g rest here later e =
    ⊎_elim
    (λ t.
    let len : length bs ≡ n = grind (arith, nat_tests) in
    let same : f ≡ g = grind (arith, nat_tests) in
    listed bs n len ∙ here t.1 len ∙ ap (λ m. body f ++ one bs (m - 1) ∷ []) (sym len) ∙ ap (λ h. body h ++ one bs (length bs - 1) ∷ []) same)
    (λ t. let e' : rest ≡ Ok g = grind (arith, nat_tests) in later e')
    (eqb_tells (one bs 0) k)

-- a line for each kind: its number, and the fields of two bytes
pub by_kind_exact : (bs : List ℕ) (g : Frame) → Bytes bs → by_kind bs ≡ Ok g → RowOf g bs
by_kind_exact bs g small =
    first_kind bs _ _ _ g _ (λ k len. let p = two_bytes bs 1 small (omega arith) in cc)
    (first_kind bs _ _ _ g _ (λ k len. let p = two_bytes bs 1 small (omega arith) in let q = two_bytes bs 3 small (omega arith) in cc)
    (first_kind bs _ _ _ g _ (λ k len. cc)
    (first_kind bs _ _ _ g _ (λ k len. cc)
    (first_kind bs _ _ _ g _ (λ k len. cc)
    (first_kind bs _ _ _ g _ (λ k len. cc)
    (first_kind bs _ _ _ g _ (λ k len. let p = two_bytes bs 4 small (omega arith) in cc)
    (λ e. cc)))))))
