-- Writing and reading undo each other: the sheet of a table is well formed and describes that table, and an accepted sheet is the sheet of the
-- table that it describes, byte for byte.
use mathlib.Core.Path.{◌≡◌, refl, sym, ◌∙◌, ap}
use mathlib.Core.Bool.{true, false, false≢true, ◌&&◌}
use mathlib.Core.List.{List, [], ◌∷◌, ◌++◌, map, flatten, append_assoc}
use Prim.Native.Nat.{ℕ, suc, ◌+◌, ◌≤◌, ◌<◌}
use native.Mathlib.Omega.{arith}
use native.Mathlib.Numerals.{add-one}
use borrow.Author.Tests.{eqb-true, eq-eqb, lt-ltb, not-false}
use lib.Dec.{eqb, ltb}
use lib.ListN.{length, get_or, drop, length-append, drop_of_length-le}
use lib.Seq.{get_or-append-add, get_or-append_seam, drop-cons, ext_get_or}
use Rattle.arith.specs.Booleans.{as_number}
use Rattle.arith.proofs.Booleans.{both-sides, and_split}
use Rattle.grid.specs.Layer.{Layer}
use Rattle.grid.specs.Edges.{number, edge_at, edge_count, is_stick, stick_at}
use Rattle.grid.specs.Questions.{Yes, first_no, Sound}
use Rattle.grid.specs.declared.edge.Edge.{Edge}
use Rattle.grid.specs.declared.refusal.Refusal.TheVariants.{WrongEntry}
use Rattle.grid.proofs.Answers.{each_all, append-all, append-yes}
use Rattle.grid.proofs.Numbers.{edge_at-within}
use Rattle.contour.specs.Walk.{occurrences}
use Rattle.contour.specs.Contours.{walk_of, contour_of, first_sticks}
use Rattle.contour.proofs.Members.{occurrences-append}
use Rattle.contour.proofs.Theorems.{AllSticks, head-stick, tail-sticks}
use Rattle.table.specs.Entries.{entry_of, encoded, suits, wrong, wrong_at, entries_answer, length_questions}
use Rattle.table.specs.Vertices.{offset_in, entry_at}
use Rattle.table.specs.declared.entry.Entry.{Entry}
use Rattle.table.specs.declared.entry.Entry.TheVariants.{Nothing, Kept, Removed, Pinned, Wrong}
use Rattle.table.proofs.Entries.{encoded-entry, offset-inside, suits-other}
use Rattle.table.proofs.Suits.{entry-suits}
use Rattle.held.specs.Held.{held_answer}
use Rattle.held.specs.Questions.{held_questions}
use Rattle.held.proofs.Asking.{accepted-of}
use Rattle.sheet.specs.Commands.{vertex_command, size_command, contour_command, end_command}
use Rattle.sheet.specs.Written.{vertices_of, contours_bytes, sheet_of}
use Rattle.formed.specs.Expected.{Expected, these, vertex_of, stands_at, vertex_letter, vertex_at, expected_contour, expected_sheet, commands_from, sheet_answer}
use Rattle.formed.specs.Asked.{widths}
use Rattle.formed.proofs.Commands.{widths-append, command-yes, commands-length, sticks_in, sticks-append, expected-at, expected-once, expected-stick}
use Rattle.reading.specs.Reading.{entry_by, entry_from, described, read_of}
use Rattle.reading.specs.Places.{answered_by}
use Rattle.reading.proofs.Described.{described-length, described-here, described-off}
use Rattle.reading.proofs.Vertices.{vertex-says}
use Rattle.reading.proofs.Theorems.{read-passes}

-- The bytes of an entry's vertex command, and the entry that they give back

record Command (n letter offset : ℕ) : Type 0 where
  bytes : vertex_command (entry_of n) ≡ letter ∷ offset ∷ []
  whole : (vertex_letter letter && ltb 0 offset) ≡ true
  entry : encoded (entry_by letter offset) ≡ n

command-of : (n : ℕ) → suits true (entry_of n) ≡ true → (letter : ℕ) × (offset : ℕ) × Command n letter offset
command-of n h = go (entry_of n) refl
  where
    inside : (x : Entry) → entry_of n ≡ x → 0 < offset_in x
    inside x e = omega (arith, ap offset_in e, (offset-inside n h).low)

    back : (x : Entry) → entry_of n ≡ x → encoded x ≡ n
    back x e = sym (ap encoded e) ∙ encoded-entry n true h

    go : (x : Entry) → entry_of n ≡ x → (letter : ℕ) × (offset : ℕ) × Command n letter offset
    go Nothing e = absurd (false≢true (sym (ap (suits true) e) ∙ h))
    go (Kept o) e = (0x4B, o, record { bytes = ap vertex_command e; whole = lt-ltb 0 o (inside (Kept o) e); entry = back (Kept o) e })
    go (Removed o) e = (0x52, o, record { bytes = ap vertex_command e; whole = lt-ltb 0 o (inside (Removed o) e); entry = back (Removed o) e })
    go (Pinned o) e = (0x4E, o, record { bytes = ap vertex_command e; whole = lt-ltb 0 o (inside (Pinned o) e); entry = back (Pinned o) e })
    go Wrong e = absurd (false≢true (sym (ap (suits true) e) ∙ h))

zero-off : (n : ℕ) → wrong false n ≡ false → n ≡ encoded Nothing
zero-off n h =
    let s = not-false _ h in
    sym (encoded-entry n false s) ∙ ap encoded (suits-other (entry_of n) s)

-- The bytes that writing puts where commands are expected

abbrev bytes_of_command : Layer → List ℕ → Expected → List ℕ
bytes_of_command L t (these bytes) = bytes
bytes_of_command L t (vertex_of e) = vertex_command (entry_at L t e)

abbrev bytes_in : Layer → List ℕ → List Expected → List ℕ
bytes_in L t [] = []
bytes_in L t (x ∷ later) = bytes_of_command L t x ++ bytes_in L t later

module _ (L : Layer) (t : List ℕ) where
  bytes-append : (xs ys : List Expected) → bytes_in L t (xs ++ ys) ≡ bytes_in L t xs ++ bytes_in L t ys
  bytes-append [] ys = refl
  bytes-append (x ∷ xs) ys =
      ap (λ (l : List ℕ). bytes_of_command L t x ++ l) (bytes-append xs ys)
      ∙ sym (append_assoc (bytes_of_command L t x) (bytes_in L t xs) (bytes_in L t ys))

  bytes-vertices : (l : List Edge) → bytes_in L t (map vertex_of l) ≡ vertices_of L t l
  unfolding vertices_of
  bytes-vertices [] = refl
  bytes-vertices (e ∷ l) = ap (λ (m : List ℕ). vertex_command (entry_at L t e) ++ m) (bytes-vertices l)

  bytes-contours : (fs : List Edge) → bytes_in L t (flatten (map (expected_contour L) fs)) ≡ contours_bytes L t fs
  unfolding contours_bytes
  bytes-contours [] = refl
  bytes-contours (f ∷ fs) =
      bytes-append (expected_contour L f) (flatten (map (expected_contour L) fs))
      ∙ (λ i. (contour_command f ++ bytes-vertices (contour_of L f) i) ++ bytes-contours fs i)

  -- the sheet is the bytes of all that is expected
  sheet-bytes : sheet_of L t ≡ bytes_in L t (expected_sheet L)
  unfolding sheet_of
  sheet-bytes =
      sym (ap (λ (l : List ℕ). size_command L.size ++ l)
      (bytes-append (flatten (map (expected_contour L) (first_sticks L))) (these end_command ∷ [])
      ∙ ap (λ (l : List ℕ). l ++ end_command) (bytes-contours (first_sticks L))))

-- What stands after p bytes

stands_after : (b p r : List ℕ) → stands_at (p ++ (b ++ r)) (length p) b ≡ true
stands_after [] p r = refl
stands_after (x ∷ b) p r =
    let seam = get_or-append_seam p x (b ++ r) 256 in
    let split : p ++ (x ∷ (b ++ r)) ≡ (p ++ (x ∷ [])) ++ (b ++ r) = sym (append_assoc p (x ∷ []) (b ++ r)) in
    let place : length p + 1 ≡ length (p ++ (x ∷ [])) = omega (arith, length-append p (x ∷ [])) in
    let later : stands_at (p ++ (x ∷ (b ++ r))) (length p + 1) b ≡ true = rw (split, place) (stands_after b (p ++ (x ∷ [])) r) in
    rw (seam, eq-eqb x x refl) later

second-after : (p r : List ℕ) (a o : ℕ) → get_or (p ++ (a ∷ o ∷ r)) (length p + 1) 0 ≡ o
second-after p r a o = get_or-append-add p (a ∷ o ∷ r) 1 0

-- The sheet of a table that passes questions 5 and 6

module _ (L : Layer) (sound : Sound L) (t : List ℕ) (exact : length t ≡ edge_count L.size) (yes-6 : entries_answer L t ≡ Yes) where
  stick-command : (e : Edge) → is_stick L e ≡ true
      → (letter : ℕ) × (offset : ℕ) × Command (get_or t (number L.size e) 0) letter offset
  stick-command e stick = command-of (get_or t (number L.size e) 0) (entry-suits L sound t yes-6 e stick)

  -- each vertex that is expected belongs to a stick
  abbrev Expects : List Expected → Type 0
  Expects xs = AllSticks L (sticks_in xs)

  bytes-length : (xs : List Expected) → Expects xs → length (bytes_in L t xs) ≡ widths xs
  bytes-length [] all = refl
  bytes-length (these b ∷ xs) all = omega (arith, length-append b (bytes_in L t xs), bytes-length xs all)
  bytes-length (vertex_of e ∷ xs) all =
      let c = stick-command e (head-stick sound e (sticks_in xs) all) in
      omega (
        arith,
        length-append (vertex_command (entry_at L t e)) (bytes_in L t xs),
        ap length c.2.bytes,
        bytes-length xs (tail-sticks sound e (sticks_in xs) all),
      )

  -- each command stands where it is expected
  written_stands : (xs : List Expected) (p : List ℕ) → Expects xs → commands_from (p ++ bytes_in L t xs) (length p) xs ≡ Yes
  written_stands [] p all = rw (eq-eqb (length p) (length (p ++ [])) (omega (arith, length-append p [])))
  written_stands (these b ∷ xs) p all =
      let split : p ++ (b ++ bytes_in L t xs) ≡ (p ++ b) ++ bytes_in L t xs = sym (append_assoc p b (bytes_in L t xs)) in
      let place : length p + length b ≡ length (p ++ b) = sym (length-append p b) in
      let later : commands_from (p ++ (b ++ bytes_in L t xs)) (length p + length b) xs ≡ Yes =
      rw (split, place) (written_stands xs (p ++ b) all) in
      rw (stands_after b p (bytes_in L t xs)) later
  written_stands (vertex_of e ∷ xs) p all =
      let c = stick-command e (head-stick sound e (sticks_in xs) all) in
      let a = c.0 in
      let o = c.1 in
      let r = bytes_in L t xs in
      let split : p ++ (a ∷ o ∷ r) ≡ (p ++ (a ∷ o ∷ [])) ++ r = sym (append_assoc p (a ∷ o ∷ []) r) in
      let place : length p + 2 ≡ length (p ++ (a ∷ o ∷ [])) = sym (length-append p (a ∷ o ∷ [])) in
      let later : commands_from (p ++ (a ∷ o ∷ r)) (length p + 2) xs ≡ Yes =
      rw (split, place) (written_stands xs (p ++ (a ∷ o ∷ [])) (tail-sticks sound e (sticks_in xs) all)) in
      let here : vertex_at (p ++ (a ∷ o ∷ r)) (length p) ≡ true =
      rw (get_or-append_seam p a (o ∷ r) 0, second-after p r a o) c.2.whole in
      let whole : commands_from (p ++ (a ∷ o ∷ r)) (length p) (vertex_of e ∷ xs) ≡ Yes = rw here later in
      ap (λ (l : List ℕ). commands_from (p ++ (l ++ r)) (length p) (vertex_of e ∷ xs)) c.2.bytes ∙ whole

  -- The sheet is well formed,
  pub written-formed : sheet_answer L (sheet_of L t) ≡ Yes
  unfolding sheet_answer
  written-formed =
      ap (λ (s : List ℕ). commands_from s 0 (expected_sheet L)) (sheet-bytes L t)
      ∙ written_stands (expected_sheet L) [] (expected-stick L sound)

  -- and it describes the table.
  back-on-stick : (y : Edge) → is_stick L y ≡ true → get_or (described L (sheet_of L t)) (number L.size y) 0 ≡ get_or t (number L.size y) 0
  unfolding occurrences
  back-on-stick y stick =
      let at = expected-at L y (expected_sheet L) (omega (arith, expected-once L sound y, ap as_number stick)) in
      let pre = at.0 in
      let post = at.1 in
      let c = stick-command y stick in
      let a = c.0 in
      let o = c.1 in
      let p = bytes_in L t pre in
      let r = bytes_in L t post in
      let is : sheet_of L t ≡ p ++ (a ∷ o ∷ r) =
      sheet-bytes L t ∙ ap (bytes_in L t) (sym at.2) ∙ bytes-append L t pre (vertex_of y ∷ post)
      ∙ ap (λ (l : List ℕ). p ++ (l ++ r)) c.2.bytes in
      let before : Expects pre = λ d h. expected-stick L sound d (omega (
        arith,
        ap (occurrences (walk_of L) d) (ap sticks_in (sym at.2) ∙ sticks-append pre (vertex_of y ∷ post)),
        occurrences-append (walk_of L) d (sticks_in pre) (y ∷ sticks_in post),
      )) in
      let place : widths pre ≡ length p = sym (bytes-length pre before) in
      let given : encoded (entry_from (p ++ (a ∷ o ∷ r)) (length p)) ≡ get_or t (number L.size y) 0 =
      rw (get_or-append_seam p a (o ∷ r) 0, second-after p r a o) c.2.entry in
      described-here L (sheet_of L t) sound y pre post at.2
      ∙ (λ i. encoded (entry_from (is i) (place i)))
      ∙ given

  off_zero : (k : ℕ) → k < edge_count L.size → stick_at L k ≡ false → get_or t k 0 ≡ 0
  unfolding entries_answer
  off_zero k below off =
      zero-off (get_or t k 0)
      (sym (ap (λ b. wrong b (get_or t k 0)) off) ∙ each_all WrongEntry (wrong_at L t) (edge_count L.size) yes-6 k below)

  pub written_back : described L (sheet_of L t) ≡ t
  written_back =
      ext_get_or 0 (described L (sheet_of L t)) t (described-length L (sheet_of L t) ∙ sym exact) (λ k h.
      let below : k < edge_count L.size = omega (arith, described-length L (sheet_of L t)) in
      both-sides (stick_at L k)
      (λ y. rw (edge_at-within L.size sound.whole.sized k below).1 at (back-on-stick (edge_at L.size k) y))
      (λ n. described-off L (sheet_of L t) sound k below n ∙ sym (off_zero k below n)))

-- The sheet of a layer that passes questions 1 to 7, read into any table of its length, gives its table.
pub read-written : (L : Layer) (t u : List ℕ) → first_no (held_questions L t) ≡ Yes → length u ≡ length t
    → read_of L u (sheet_of L t) ≡ record { refusal = 0; place = 0; table = t }
unfolding read_of
read-written L t u asked same =
    let ok = accepted-of L t asked in
    let s = sheet_of L t in
    let back = written_back L ok.sound t ok.exact ok.entries in
    let formed = written-formed L ok.sound t ok.exact ok.entries in
    let five : first_no (length_questions L (length u)) ≡ Yes =
    rw same (append-all (length_questions L (length t)) (entries_answer L t ∷ held_answer L t ∷ []) asked).0 in
    let both : first_no (sheet_answer L s ∷ held_answer L (described L s) ∷ []) ≡ Yes = rw (formed, back, ok.held) in
    let all = sym (append-yes (length_questions L (length u)) (sheet_answer L s ∷ held_answer L (described L s) ∷ []) five) ∙ both in
    ap (answered_by L u s) all ∙ ap (λ (l : List ℕ). record { refusal = 0; place = 0; table = l }) back

-- An accepted sheet is written again byte for byte

module _ (s : List ℕ) where
  -- what is left of the sheet at i begins with the byte there
  drop_at : (i d : ℕ) → i < length s → drop i s ≡ get_or s i d ∷ drop (i + 1) s
  drop_at i d h = drop-cons s i d h ∙ ap (λ (n : ℕ). get_or s i d ∷ drop n s) (sym (add-one i))

  -- and with the bytes that stand there
  stands-drop : (b : List ℕ) (i : ℕ) → i + length b ≤ length s → stands_at s i b ≡ true → drop i s ≡ b ++ drop (i + length b) s
  stands-drop [] i room e = let z : i + 0 ≡ i = omega arith in rw z
  stands-drop (x ∷ b) i room e =
      let both = and_split (eqb (get_or s i 256) x) (stands_at s (i + 1) b) e in
      let z : i + 1 + length b ≡ i + suc (length b) = omega arith in
      drop_at i 256 (omega arith)
      ∙ (λ j. eqb-true (get_or s i 256) x both.0 j ∷ stands-drop b (i + 1) (omega arith) both.1 j)
      ∙ ap (λ (n : ℕ). x ∷ (b ++ drop n s)) z

  module _ (L : Layer) (sound : Sound L) (bytes : (k : ℕ) → get_or s k 0 < 256) where
    again-from : (xs pre : List Expected) (i : ℕ) → pre ++ xs ≡ expected_sheet L → widths pre ≡ i → commands_from s i xs ≡ Yes
        → bytes_in L (described L s) xs ≡ drop i s
    again-from [] pre i joined at yes-8 =
        let ends = commands-length s [] i yes-8 in
        sym (drop_of_length-le s {i = i} (omega arith))
    again-from (these b ∷ xs) pre i joined at yes-8 =
        let c = command-yes s i (these b) xs yes-8 in
        let ends = commands-length s (these b ∷ xs) i yes-8 in
        let next : (pre ++ (these b ∷ [])) ++ xs ≡ expected_sheet L = append_assoc pre (these b ∷ []) xs ∙ joined in
        let wide : widths (pre ++ (these b ∷ [])) ≡ i + length b = omega (arith, widths-append pre (these b ∷ [])) in
        ap (λ (l : List ℕ). b ++ l) (again-from xs (pre ++ (these b ∷ [])) (i + length b) next wide c.1)
        ∙ sym (stands-drop b i (omega arith) c.0)
    again-from (vertex_of e ∷ xs) pre i joined at yes-8 =
        let c = command-yes s i (vertex_of e) xs yes-8 in
        let ends = commands-length s (vertex_of e ∷ xs) i yes-8 in
        let next : (pre ++ (vertex_of e ∷ [])) ++ xs ≡ expected_sheet L = append_assoc pre (vertex_of e ∷ []) xs ∙ joined in
        let wide : widths (pre ++ (vertex_of e ∷ [])) ≡ i + 2 = omega (arith, widths-append pre (vertex_of e ∷ [])) in
        let z : i + 1 + 1 ≡ i + 2 = omega arith in
        let here : vertex_command (entry_at L (described L s) e) ≡ get_or s i 0 ∷ get_or s (i + 1) 0 ∷ [] =
        ap (λ (n : ℕ). vertex_command (entry_of n)) (described-here L s sound e pre xs joined ∙ ap (λ (k : ℕ). encoded (entry_from s k)) at)
        ∙ (vertex-says (get_or s i 0) (get_or s (i + 1) 0) c.0 (bytes (i + 1))).bytes in
        let left : drop i s ≡ get_or s i 0 ∷ get_or s (i + 1) 0 ∷ drop (i + 2) s =
        drop_at i 0 (omega arith)
        ∙ ap (λ (l : List ℕ). get_or s i 0 ∷ l) (drop_at (i + 1) 0 (omega arith) ∙ ap (λ (n : ℕ). get_or s (i + 1) 0 ∷ drop n s) z) in
        ap (λ (l : List ℕ). l ++ bytes_in L (described L s) xs) here
        ∙ ap (λ (l : List ℕ). get_or s i 0 ∷ get_or s (i + 1) 0 ∷ l) (again-from xs (pre ++ (vertex_of e ∷ [])) (i + 2) next wide c.1)
        ∙ sym left

    pub written-again : sheet_answer L s ≡ Yes → sheet_of L (described L s) ≡ s
    unfolding sheet_answer
    written-again yes-8 = sheet-bytes L (described L s) ∙ again-from (expected_sheet L) [] 0 refl refl yes-8

-- A sheet of bytes that is read is the sheet of the table that it leaves.
pub read_again : (L : Layer) (u s : List ℕ) → ((k : ℕ) → get_or s k 0 < 256) → (read_of L u s).refusal ≡ 0 → sheet_of L (read_of L u s).table ≡ s
read_again L u s bytes done =
    let p = read-passes L u s done in
    ap (sheet_of L) p.left ∙ written-again s L p.sound bytes p.formed
