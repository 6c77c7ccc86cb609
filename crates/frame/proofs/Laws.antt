-- What is written reads back, and only what is written is read.
use Rattle.std.proofs.Common.{◌≡◌, ℕ, ◌-◌, ◌%◌, ◌<◌, ◌≤◌, cond, eqb, ltb, List, [], ◌∷◌, ◌++◌, length, take, drop, Ok, Err, Result, sym, refl, ap, ◌∙◌, subst, arith}
use Rattle.std.proofs.lemmas.List.Elements.{All-push}
use Rattle.std.proofs.lemmas.List.{take_at, get_or_push, length_push}
use Rattle.std.proofs.lemmas.Bool.Decides.{nat_tests}
use Rattle.frame.specs.declared.fault.LineFault.{LineFault}
use Rattle.frame.specs.declared.fault.FrameFault.{FrameFault}
use Rattle.frame.specs.declared.fault.FrameFault.TheVariants.{TooShort, WrongSum}
use Rattle.frame.specs.declared.fault.ShortBuffer.{ShortBuffer}
use Rattle.frame.specs.declared.Frame.{Frame}
use Rattle.frame.specs.declared.Frame.TheVariants.{Map, Node, Packet, Withdraw, Return, Hop, End}
use Rattle.frame.specs.Digits.{spelled, paired, bytes_in}
use Rattle.frame.specs.Frames.{one, body, by_kind, check, checked, frame_in}
use Rattle.frame.specs.Lines.{text, of_line, reads, told, held, ReadsBack, OnlyText}
use Rattle.frame.proofs.Spelling.{Bytes, length_spelled, spelled_digits, paired_spelled, spelled_paired, paired_bytes, digits_in, bytes_of}
use Rattle.frame.proofs.Rows.{by_kind_exact}

-- the check byte of a row stands last
front_of : (row : List ℕ) (b : ℕ) → take (length (row ++ b ∷ []) - 1) (row ++ b ∷ []) ≡ row
front_of row b = take_at row (b ∷ []) (length (row ++ b ∷ []) - 1) (omega (arith, length_push row b))

last_of : (row : List ℕ) (b : ℕ) → one (row ++ b ∷ []) (length (row ++ b ∷ []) - 1) ≡ b
last_of row b = get_or_push row b 0 (length (row ++ b ∷ []) - 1) (omega (arith, length_push row b))

-- a row and its check byte say what its kind says
checked_row : (row : List ℕ) → 0 < length row → frame_in (checked row) ≡ by_kind (checked row)
checked_row row h =
    let size = length_push row (check row) in
    let front = front_of row (check row) in
    let last = last_of row (check row) in
    grind (arith, nat_tests)

-- the digits of bytes are a line of them
spelled_line : (bs : List ℕ) → Bytes bs → length bs ≤ 40 → bytes_in (spelled bs) ≡ Ok bs
spelled_line bs small h =
    let size = length_spelled bs in
    bytes_of (spelled bs) (spelled_digits bs small) (omega arith) (omega arith) ∙ ap (λ x. Ok x) (paired_spelled bs small)

-- a row of a frame fits a line
body_size : (f : Frame) → (0 < length (body f)) × (length (body f) < 40)
body_size (Map reach planariser host) = (omega arith, omega arith)
body_size (Node x y) = (omega arith, omega arith)
body_size (Packet source target) = (omega arith, omega arith)
body_size (Withdraw node) = (omega arith, omega arith)
body_size (Return node) = (omega arith, omega arith)
body_size (Hop sender receiver) = (omega arith, omega arith)
body_size (End source target end total) = (omega arith, omega arith)

-- the text of a frame reads as the frame, where its row is of bytes and of its kind
text_back : (f : Frame) → Bytes (body f) → by_kind (checked (body f)) ≡ Ok f → reads (text f) ≡ Ok f
text_back f small back =
    let size = body_size f in
    let row_small : Bytes (checked (body f)) = All-push (λ b. b < 256) (body f) (check (body f)) small (omega arith) in
    let line = spelled_line (checked (body f)) row_small (omega (arith, size.1, length_push (body f) (check (body f)))) in
    ap of_line line ∙ checked_row (body f) size.0 ∙ back

-- and so does what writing leaves in a buffer
pub reads_back :
    (f : Frame) (old buf : List ℕ) (r : Result ℕ ShortBuffer) →
    r ≡ told (text f) old → buf ≡ held (text f) old →
    Bytes (body f) → by_kind (checked (body f)) ≡ Ok f →
    ReadsBack f buf r
reads_back f old buf (Err fault) answer buffer small back = tt
reads_back f old buf (Ok n) answer buffer small back =
    let count : n ≡ length (text f) = grind (arith, nat_tests) in
    let here : buf ≡ text f ++ drop (length (text f)) old = grind (arith, nat_tests) in
    let front : take n buf ≡ text f = ap (λ b. take n b) here ∙ take_at (text f) (drop (length (text f)) old) n (sym count) in
    ap reads front ∙ text_back f small back

-- a line of bytes is the digits of those bytes
line_exact : (s bs : List ℕ) → bytes_in s ≡ Ok bs → Bytes bs × (s ≡ spelled bs)
line_exact s bs e =
    let all = digits_in s bs e in
    let even : length s % 2 ≡ 0 = grind (arith, nat_tests) in
    let same : paired s ≡ bs = grind (arith, nat_tests) in
    (subst Bytes same (paired_bytes s all), sym (spelled_paired s all even) ∙ ap spelled same)

-- what is accepted passed each test
passed :
    (n a b : ℕ) (r : Result Frame FrameFault) (f : Frame) →
    cond (ltb n 2) (Err TooShort) (cond (eqb a b) r (Err WrongSum)) ≡ Ok f → (a ≡ b) × (r ≡ Ok f)
passed n a b r f e = (grind (arith, nat_tests), grind (arith, nat_tests))

-- a row that is accepted is the whole row of its frame
row_exact : (bs : List ℕ) (f : Frame) → Bytes bs → frame_in bs ≡ Ok f → bs ≡ checked (body f)
row_exact bs f small e =
    let last = one bs (length bs - 1) in
    let p = passed (length bs) (check (take (length bs - 1) bs)) last (by_kind bs) f e in
    let whole : bs ≡ body f ++ last ∷ [] = by_kind_exact bs f small p.1 in
    let front : take (length bs - 1) bs ≡ body f = ap (λ x. take (length x - 1) x) whole ∙ front_of (body f) last in
    whole ∙ ap (λ b. body f ++ b ∷ []) (sym p.0 ∙ ap check front)

line_text : (s : List ℕ) (r : Result (List ℕ) LineFault) (f : Frame) → bytes_in s ≡ r → of_line r ≡ Ok f → s ≡ text f
line_text s (Err fault) f e h = cc
line_text s (Ok bs) f e h = let p = line_exact s bs e in p.1 ∙ ap spelled (row_exact bs f p.0 h)

-- a line that is accepted is the text of its frame
pub only_text : (s : List ℕ) (r : Result Frame FrameFault) → r ≡ reads s → OnlyText s r
only_text s (Err fault) e = tt
only_text s (Ok f) e = line_text s (bytes_in s) f refl (sym e)
