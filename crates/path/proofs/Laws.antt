-- Paths, there and back.
use Rattle.std.proofs.Common.{◌≡◌, ℕ, ◌+◌, ◌^◌, ◌<◌, ◌≤◌, Bool, true, false, cond, not, T, eqb, List, [], ◌∷◌, ◌++◌, length, get_or, take, drop, Ok, Err, Result, sym, refl, ap, ◌∙◌, subst, arith, lit<, w32}
use lib.Ieee.{binary64}
use lib.Ieee.Bits.{of_bits-to_bits, to_bits-lt}
use Rattle.std.proofs.lemmas.List.{append_assoc, length-append, take-append-drop, drop-drop}
use Rattle.std.proofs.lemmas.Int.{to_z_pos}
use Rattle.std.specs.List.{AllByRecursion}
use Rattle.fault.specs.declared.Fault.{Fault}
use Rattle.double.specs.declared.point.Point.{Point}
use Rattle.double.specs.Doubles.{double_word, word_double}
use Rattle.double.specs.Points.{point}
use Rattle.geometry.specs.Laws.{Doubles, PointForm}
use Rattle.geometry.specs.Layout.{point_layout, points_layout}
use Rattle.geometry.specs.Recv.{point_at}
use Rattle.geometry.proofs.Laws.{point_formed, point_back, point_read, point_distinct}
use Rattle.wire.specs.Bytes.{Octets}
use Rattle.wire.specs.Cursor.{ReadsForms, Row, none, one, Reads, sized}
use Rattle.wire.specs.Words.{be, then, natural, uint_at, u64_at, u8_at, count_at}
use Rattle.wire.proofs.Cursors.{reads_row, row_read}
use Rattle.wire.proofs.Nullables.{i32_back}
use Rattle.wire.proofs.Reading.{uint_fits, word_lt}
use Rattle.wire.proofs.Taking.{then_ok, uint_ok, count_ok}
use Rattle.wire.proofs.Wording.{length_be, word_back, be_word}
use Rattle.path.specs.Laws.{Form, Opens, ReadsBack, OnlyForms, WrittenBack, Distinct}
use Rattle.path.specs.Layout.{path_bytes, path_layout}
use Rattle.path.specs.Recv.{opened_with, path_recv, read_point, at_points}

-- a word that stands behind others is read
uint_back : (w : ℕ) (pre rest : List ℕ) (n : ℕ) → n < 256 ^ w → uint_at w (pre ++ (be w n ++ rest)) (length pre) ≡ Ok n
uint_back w pre rest n h =
    let long = length-append pre (be w n ++ rest) in
    let more = length-append (be w n) rest in
    uint_fits w (pre ++ (be w n ++ rest)) (length pre) (omega (arith, length_be w n)) ∙ ap Ok (word_back w pre rest n (length pre) refl h)

point_reads : (pre e rest : List ℕ) (p : Point) → PointForm p e → point_at (pre ++ (e ++ rest)) (length pre) ≡ Ok p
point_reads pre e rest p f =
    let x = f.x_word in
    let y = f.y_word in
    let all = pre ++ (e ++ rest) in
    let first : all ≡ pre ++ (be 8 x ++ (be 8 y ++ rest)) = ap (λ l. pre ++ (l ++ rest)) f.bytes ∙ ap (λ l. pre ++ l) (append_assoc (be 8 x) (be 8 y) rest) in
    let second : all ≡ (pre ++ be 8 x) ++ (be 8 y ++ rest) = first ∙ sym (append_assoc pre (be 8 x) (be 8 y ++ rest)) in
    let place : length (pre ++ be 8 x) ≡ length pre + 8 = length-append pre (be 8 x) in
    let at_x : u64_at all (length pre) ≡ Ok x = ap (λ l. u64_at l (length pre)) first ∙ uint_back 8 pre (be 8 y ++ rest) x f.x_fits in
    let at_y : u64_at all (length pre + 8) ≡ Ok y = ap (λ l. u64_at l (length pre + 8)) second ∙ ap (u64_at ((pre ++ be 8 x) ++ (be 8 y ++ rest))) (sym place) ∙ uint_back 8 (pre ++ be 8 x) rest y f.y_fits in
    ap (λ r. then r (λ n. then (u64_at all (length pre + 8)) (λ m. Ok (point (word_double n) (word_double m))))) at_x
    ∙ ap (λ r. then r (λ m. Ok (point (word_double x) (word_double m)))) at_y
    ∙ ap Ok (sym f.is)

length_form : (e : List ℕ) (p : Point) → PointForm p e → 16 ≡ length e
length_form e p f = sym (ap length f.bytes)

sized_ok : (r : Result Point Fault) (p : Point) (n : ℕ) → sized (λ _. 16) r ≡ Ok (p, n) → (r ≡ Ok p) × (16 ≡ n)
sized_ok (Ok q) p n e =
    let pair : ◌≡◌ {A = Point × ℕ} (q, 16) (p, n) = cc in
    (ap (λ x. Ok x.0) pair, ap (λ x. x.1) pair)
sized_ok (Err f) p n e = let z : ◌≡◌ {A = ℕ} 0 1 = cc in absurd (omega arith)

pub point_forms : ReadsForms read_point PointForm
point_forms = record {
  reads = λ pre e rest p f. ap (sized (λ _. 16)) (point_reads pre e rest p f) ∙ ap (λ n. Ok (p, n)) (length_form e p f);
  formed = λ bs at n p small e.
      let s = sized_ok (point_at bs at) p n e in
      subst (λ m. (at + m ≤ length bs) × PointForm p (take m (drop at bs))) s.1 (point_formed bs at p small s.0);
}

-- a byte as a word of one byte
byte_word : (byte : ℕ) → byte < 256 → be 1 byte ≡ byte ∷ []
byte_word byte h = ap (λ n. n ∷ []) (omega arith)

count_back : (byte n : ℕ) (last : List ℕ) → n < 2 ^ 31 → count_at (path_bytes byte n last) 1 ≡ Ok n
count_back byte n last few = ap (λ r. then r (natural 1)) (i32_back (byte ∷ []) last n (omega arith) ∙ ap Ok (to_z_pos w32 n few))

byte_back : (byte : ℕ) (rest : List ℕ) → byte < 256 → u8_at (byte ∷ rest) 0 ≡ Ok byte
byte_back byte rest h = ap (λ l. u8_at (l ++ rest) 0) (sym (byte_word byte h)) ∙ uint_back 1 [] rest byte h

pub reads_back : (bs : List ℕ) → ReadsBack bs
reads_back bs byte ps f =
    let n = length ps in
    let msg = path_bytes byte n f.last in
    let head : path_recv msg ≡ Ok (opened_with msg byte n) =
    ap (λ r. then r (λ b. then (count_at msg 1) (λ m. Ok (opened_with msg b m)))) (byte_back byte (be 4 n ++ f.last) f.small)
    ∙ ap (λ r. then r (λ m. Ok (opened_with msg byte m))) (count_back byte n f.last f.few) in
    let all : Opens msg (not (eqb byte 0)) ps = record {
      opened = opened_with msg byte n;
      opens = head;
      ends = refl;
      items = reads_row read_point PointForm point_forms (byte ∷ be 4 n) f.row;
    } in
    subst (λ l. Opens l (not (eqb byte 0)) ps) (sym f.whole) all

pub only_forms : (bs : List ℕ) → Octets bs → OnlyForms bs
only_forms bs small o ps e reads =
    let t = then_ok (u8_at bs 0) (λ b. then (count_at bs 1) (λ m. Ok (opened_with bs b m))) o e in
    let u = then_ok (count_at bs 1) (λ m. Ok (opened_with bs t.0 m)) o t.2 in
    let b = uint_ok 1 bs 0 t.0 t.1 in
    let k = count_ok bs 1 u.0 u.1 in
    let is : opened_with bs t.0 u.0 ≡ o = let q = u.2 in cc in
    let row = row_read read_point PointForm point_forms bs small 5 u.0 k.0 (subst (λ p. Reads read_point (at_points p) ps) (sym is) reads) in
    let byte_fits : t.0 < 256 = subst (λ n. n < 256) b.1 (word_lt 1 bs 0 small b.0) in
    let first : take 1 bs ≡ t.0 ∷ [] = sym (be_word 1 bs 0 small b.0) ∙ ap (be 1) b.1 ∙ byte_word t.0 byte_fits in
    let second : take 4 (drop 1 bs) ≡ be 4 (length ps) = sym (be_word 4 bs 1 small k.0) ∙ ap (be 4) (k.1 ∙ sym row.0) in
    let rest : drop 1 bs ≡ be 4 (length ps) ++ drop 5 bs = sym (take-append-drop 4 (drop 1 bs)) ∙ ap (λ l. l ++ drop 4 (drop 1 bs)) second ∙ ap (λ l. be 4 (length ps) ++ l) (drop-drop 4 1 bs) in
    let parts : bs ≡ path_bytes t.0 (length ps) (drop 5 bs) = sym (take-append-drop 1 bs) ∙ ap (λ l. l ++ drop 1 bs) first ∙ ap (λ l. t.0 ∷ l) rest in
    (t.0, (record { small = byte_fits; few = subst (λ n. n < 2 ^ 31) (sym row.0) k.2; last = drop 5 bs; whole = parts; row = row.1 }, sym (ap (λ p. p.closed) is)))

point_written : (p : Point) → Doubles p → PointForm p (point_layout p)
point_written p d =
    let fx = subst T (sym d.0) tt in
    let fy = subst T (sym d.1) tt in
    record {
      x_word = double_word p.x;
      y_word = double_word p.y;
      x_fits = to_bits-lt binary64 p.x fx;
      y_fits = to_bits-lt binary64 p.y fy;
      is = sym (point_back p (double_word p.x) (double_word p.y) (of_bits-to_bits binary64 p.x fx) (of_bits-to_bits binary64 p.y fy));
      bytes = refl;
    }

written_row : (ps : List Point) → AllByRecursion Doubles ps → Row PointForm ps (points_layout ps)
written_row [] d = none
written_row (p ∷ ps) d = one (point_written p d.0) (written_row ps d.1)

closed_byte : (b : Bool) → cond b 1 0 < 256
closed_byte true = lit< tt
closed_byte false = lit< tt

closed_back : (b : Bool) → not (eqb (cond b 1 0) 0) ≡ b
closed_back true = refl
closed_back false = refl

pub written_back : (closed : Bool) (ps : List Point) → WrittenBack closed ps
written_back closed ps few doubles =
    let form : Form (cond closed 1 0) ps (path_layout closed ps) = record { small = closed_byte closed; few = few; last = points_layout ps; whole = refl; row = written_row ps doubles } in
    subst (λ b. Opens (path_layout closed ps) b ps) (closed_back closed) (reads_back (path_layout closed ps) (cond closed 1 0) ps form)

same_closed : (a b : Bool) → ◌≡◌ {A = ℕ} (cond a 1 0) (cond b 1 0) → a ≡ b
same_closed true true e = refl
same_closed true false e = absurd (omega arith)
same_closed false true e = absurd (omega arith)
same_closed false false e = refl

same_points : (qs ps : List Point) → AllByRecursion Doubles qs → AllByRecursion Doubles ps → points_layout qs ≡ points_layout ps → qs ≡ ps
same_points [] [] d f e = refl
same_points [] (p ∷ ps) d f e = let l = ap length e in absurd (omega arith)
same_points (q ∷ qs) [] d f e = let l = ap length e in absurd (omega arith)
same_points (q ∷ qs) (p ∷ ps) d f e =
    let first = point_distinct p (point_read p f.0) q d.0 (ap (take 16) e) in
    ap (λ x. x ∷ qs) first ∙ ap (λ xs. p ∷ xs) (same_points qs ps d.1 f.1 (ap (drop 16) e))

pub distinct : (closed : Bool) (ps : List Point) → Distinct closed ps
distinct closed ps few doubles c qs less others e =
    (same_closed c closed (ap (λ bs. get_or bs 0 0) e), same_points qs ps others doubles (ap (drop 5) e))
