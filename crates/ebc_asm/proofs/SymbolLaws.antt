-- The symbols of the lines of a source: each stands in its section, and no two share a name.
use Rattle.std.proofs.Common.{◌≡◌, ℕ, ◌+◌, ◌≤◌, List, [], ◌∷◌, ◌++◌, length, map, Option, Some, None, Bool, true, false, cond, refl, subst}
use Rattle.std.proofs.Common.{arith}
use Rattle.std.proofs.lemmas.List.{length-append}
use Rattle.std.proofs.lemmas.List.Elements.{All-cons, All-nil}
use Rattle.std.proofs.lemmas.List.Kept.{AllPairs-cons}
use Rattle.std.specs.Prelude.{⊤, All, AllPairs, bytes_eq, nat_eq}
use Rattle.std.specs.List.{list_any}
use Rattle.ebc_base.specs.Names.{is_name}
use Rattle.ebc_base.specs.Tables.{is_named}
use Rattle.ebc_object.specs.Objects.{AreNamedApart, IsSymbol}
use Rattle.asm_text.specs.Lines.{Line}
use Rattle.ebc_asm.specs.Pieces.{Use, bytes_of, data_after, section_of, use_of}
use Rattle.ebc_asm.specs.Symbols.{Place, and_name, and_names, flag, global_of, is_labelled, makes_global, names_with, place_of, start}
use Rattle.ebc_asm.specs.Symbols.{symbol_of, used_name}
use Rattle.ebc_asm.proofs.FitLaws.{NameIs, UseFits}
use Rattle.ebc_asm.proofs.FixupLaws.{AreFit, pairs_nil}
use Rattle.ebc_asm.proofs.NumberLaws.{same_bytes}
use Rattle.ebc_asm.proofs.StateLaws.{Apart}
use Rattle.std.proofs.lemmas.Bool.{or_parts}

-- ---- names

-- Each of them is a name.
abbrev pub AreNames : List (List ℕ) → Type 0
AreNames [] = ⊤
AreNames (n ∷ ns) = (is_name n ≡ true) × AreNames ns

names_last : (ns : List (List ℕ)) (n : List ℕ) → AreNames ns → is_name n ≡ true → AreNames (ns ++ n ∷ [])
names_last [] n h e = (e, tt)
names_last (m ∷ ns) n h e = (h.0, names_last ns n h.1 e)

name_or_not : (b : Bool) (ns : List (List ℕ)) (n : List ℕ) → AreNames ns → is_name n ≡ true → AreNames (cond b ns (ns ++ n ∷ []))
name_or_not true ns n h e = h
name_or_not false ns n h e = names_last ns n h e

names_more : (o : Option (List ℕ)) (ns : List (List ℕ)) → AreNames ns → NameIs o → AreNames (and_name o ns)
names_more None ns h e = h
names_more (Some n) ns h e = name_or_not (is_named n ns) ns n h e

used_is : (bytes : List ℕ) (u : Option Use) → UseFits bytes u → NameIs (used_name u)
used_is bytes None h = tt
used_is bytes (Some u) h = h.0

-- the names of lines are names
pub are_names : (ns : List (List ℕ)) (ls : List Line) → AreNames ns → AreFit ls → AreNames (names_with ns ls)
unfolding names_with
are_names ns [] h fit = h
are_names ns (l ∷ ls) h fit =
    are_names (and_names l ns) ls
    (names_more (used_name (use_of l.statement)) (and_name (global_of l.statement) (and_name l.label ns))
    (names_more (global_of l.statement) (and_name l.label ns) (names_more l.label ns h fit.0.label) fit.0.global)
    (used_is (bytes_of l.statement) (use_of l.statement) fit.0.used))
    fit.1

-- ---- places

-- A place lies in its section, of so many bytes.
pub record IsPlaced (c k : ℕ) (p : Place) : Type 0 where
  pub kind : p.kind ≤ 2
  pub offset : p.offset ≤ cond (nat_eq p.kind 1) c (cond (nat_eq p.kind 2) k 0)

wider_end : (a b : Bool) (x c k m n : ℕ) → c ≤ m → k ≤ n → x ≤ cond a c (cond b k 0) → x ≤ cond a m (cond b n 0)
wider_end true b x c k m n le lf h = omega (arith, le, h)
wider_end false true x c k m n le lf h = omega (arith, lf, h)
wider_end false false x c k m n le lf h = h

wider : (p : Place) (c k m n : ℕ) → c ≤ m → k ≤ n → IsPlaced c k p → IsPlaced m n p
wider p c k m n le lf h = record { kind = h.kind; offset = wider_end (nat_eq p.kind 1) (nat_eq p.kind 2) p.offset c k m n le lf h.offset }

placed_one : (b : Bool) (c k : ℕ) (p q : Place) → IsPlaced c k p → IsPlaced c k q → IsPlaced c k (cond b p q)
placed_one true c k p q h g = h
placed_one false c k p q h g = g

placed : (d : Bool) (c k : ℕ) (name : List ℕ) (ls : List Line) → IsPlaced (c + length (section_of false d ls))
    (k + length (section_of true d ls)) (place_of (record { in_data = d; code_end = c; data_end = k }) name ls)
unfolding place_of section_of
placed d c k name [] = record { kind = omega arith; offset = omega arith }
placed true c k name (l ∷ ls) =
    let e = length-append (bytes_of l.statement) (section_of true (data_after true l.statement) ls) in
    placed_one (is_labelled name l) (c + length (section_of false (data_after true l.statement) ls))
    (k + length (bytes_of l.statement ++ section_of true (data_after true l.statement) ls))
    (record { kind = 2; offset = k }) (place_of (record {
      in_data = data_after true l.statement;
      code_end = c;
      data_end = k + length (bytes_of l.statement);
    }) name ls)
    (record { kind = omega arith; offset = omega arith })
    (wider (place_of (record { in_data = data_after true l.statement; code_end = c; data_end = k + length (bytes_of l.statement) }) name ls)
    (c + length (section_of false (data_after true l.statement) ls))
    ((k + length (bytes_of l.statement)) + length (section_of true (data_after true l.statement) ls))
    (c + length (section_of false (data_after true l.statement) ls))
    (k + length (bytes_of l.statement ++ section_of true (data_after true l.statement) ls))
    (omega arith) (omega (arith, e)) (placed (data_after true l.statement) c (k + length (bytes_of l.statement)) name ls))
placed false c k name (l ∷ ls) =
    let e = length-append (bytes_of l.statement) (section_of false (data_after false l.statement) ls) in
    placed_one (is_labelled name l) (c + length (bytes_of l.statement ++ section_of false (data_after false l.statement) ls))
    (k + length (section_of true (data_after false l.statement) ls))
    (record { kind = 1; offset = c }) (place_of (record {
      in_data = data_after false l.statement;
      code_end = c + length (bytes_of l.statement);
      data_end = k;
    }) name ls)
    (record { kind = omega arith; offset = omega arith })
    (wider (place_of (record {
      in_data = data_after false l.statement;
      code_end = c + length (bytes_of l.statement);
      data_end = k;
    }) name ls)
    ((c + length (bytes_of l.statement)) + length (section_of false (data_after false l.statement) ls))
    (k + length (section_of true (data_after false l.statement) ls))
    (c + length (bytes_of l.statement ++ section_of false (data_after false l.statement) ls))
    (k + length (section_of true (data_after false l.statement) ls))
    (omega (arith, e)) (omega arith) (placed (data_after false l.statement) (c + length (bytes_of l.statement)) k name ls))

-- ---- symbols

flag_small : (b : Bool) → flag b ≤ 1
flag_small true = omega arith
flag_small false = omega arith

end_length : (a b : Bool) (code contents : List ℕ) → cond a (0 + length code) (cond b (0 + length contents) 0) ≡ length
    (cond a code (cond b contents []))
end_length true b code contents = omega arith
end_length false true code contents = omega arith
end_length false false code contents = refl

is_symbol : (ls : List Line) (n : List ℕ) → is_name n ≡ true → IsSymbol (section_of false false ls) (section_of true false ls)
    (symbol_of ls n)
is_symbol ls n e =
    let p = placed false 0 0 n ls in
    let o = p.offset in
    let s = end_length (nat_eq (place_of start n ls).kind 1) (nat_eq (place_of start n ls).kind 2) (section_of false false ls)
    (section_of true false ls) in
    record {
      name = e;
      kind = p.kind;
      global = flag_small (list_any (makes_global n) ls);
      offset = subst (λ m. (place_of start n ls).offset ≤ m) s o;
    }

pub all_symbols : (ls : List Line) (ns : List (List ℕ)) → AreNames ns
    → All (IsSymbol (section_of false false ls) (section_of true false ls)) (map (symbol_of ls) ns)
all_symbols ls [] h = All-nil (IsSymbol (section_of false false ls) (section_of true false ls))
all_symbols ls (n ∷ ns) h =
    All-cons (IsSymbol (section_of false false ls) (section_of true false ls)) (symbol_of ls n) (map (symbol_of ls) ns) (is_symbol ls n h.0)
    (all_symbols ls ns h.1)

two_names : (n m : List ℕ) → bytes_eq n m ≡ false → n ≡ m → ⊥
two_names n m h e = let s : bytes_eq n m ≡ true = subst (λ x. bytes_eq n x ≡ true) e (same_bytes n) in cc (h, s)

apart_from : (ls : List Line) (n : List ℕ) (ns : List (List ℕ)) → is_named n ns ≡ false
    → All (AreNamedApart (symbol_of ls n)) (map (symbol_of ls) ns)
apart_from ls n [] h = All-nil (AreNamedApart (symbol_of ls n))
apart_from ls n (m ∷ ns) h =
    let p = or_parts (bytes_eq n m) (is_named n ns) h in
    All-cons (AreNamedApart (symbol_of ls n)) (symbol_of ls m) (map (symbol_of ls) ns) (two_names n m p.0) (apart_from ls n ns p.1)

pub named_apart : (ls : List Line) (ns : List (List ℕ)) → Apart ns → AllPairs AreNamedApart (map (symbol_of ls) ns)
named_apart ls [] h = pairs_nil AreNamedApart
named_apart ls (n ∷ ns) h = AllPairs-cons AreNamedApart (symbol_of ls n) (map (symbol_of ls) ns) (apart_from ls n ns h.0)
    (named_apart ls ns h.1)
