-- The fixups of the lines of a source: each fills in zeros of its section, and they ascend.
use Rattle.std.proofs.Common.{◌≡◌, ℕ, ◌+◌, ◌<◌, ◌≤◌, List, [], ◌∷◌, ◌++◌, length, replicate, take, drop, Option, Some, None, Bool, true}
use Rattle.std.proofs.Common.{false, cond, inl, inr, refl, sym, ap, subst, ◌∙◌, arith}
use Rattle.std.proofs.Math.Seq.{drop-append-add, drop-append_seam, take-append_seam}
use Rattle.std.proofs.lemmas.List.{append_assoc, length-append, length-replicate}
use Rattle.std.proofs.lemmas.List.Elements.{All-append, All-cons, All-nil, All-replicate}
use Rattle.std.proofs.lemmas.List.Kept.{AllPairs-cons}
use Rattle.std.specs.Prelude.{⊤, All, AllPairs, IfSome, bytes_eq, slice_index_or}
use Rattle.ebc_object.specs.Objects.{EndsBefore, IsFixup, filled, most, section_bytes, width}
use Rattle.ebc_object.specs.declared.object.Fixup.{Fixup}
use Rattle.asm_text.specs.Lines.{Line}
use Rattle.ebc_asm.specs.Pieces.{Use, bytes_of, data_after, section_of, use_of}
use Rattle.ebc_asm.specs.Symbols.{fixup_of, fixups_in, fixups_of, from_of, section_kind}
use Rattle.ebc_asm.proofs.FitLaws.{Filled, LineFits, UseFits}
use Rattle.ebc_asm.proofs.StateLaws.{Knows, KnowsUse}
use Rattle.ebc_base.proofs.Lists.{found_within}

-- Each line has what is read.
abbrev pub AreFit : List Line → Type 0
AreFit [] = ⊤
AreFit (l ∷ ls) = LineFits l × AreFit ls

-- A fixup of code or of data that begins at a place of the section or behind it fills in zeros there.
pub record FixupFits (w : Bool) (start : ℕ) (bytes : List ℕ) (names : List (List ℕ)) (f : Fixup) : Type 0 where
  pub section : f.section ≡ section_kind w
  pub kind : (1 ≤ f.kind) × (f.kind ≤ 5)
  pub behind : start ≤ f.offset
  pub within : f.offset + width f.kind ≤ length bytes
  pub zeros : All (λ b. b ≡ 0) (take (width f.kind) (drop f.offset bytes))
  pub symbol : f.symbol < length names
  pub from : f.from ≤ length bytes

-- So do fixups, each behind the one before.
abbrev pub AreFixups : Bool → ℕ → List ℕ → List (List ℕ) → List Fixup → Type 0
AreFixups w start bytes names [] = ⊤
AreFixups w start bytes names (f ∷ fs) = FixupFits w start bytes names f × AreFixups w (f.offset + width f.kind) bytes names fs

sooner : (w : Bool) (m n : ℕ) (bytes : List ℕ) (names : List (List ℕ)) (fs : List Fixup) → m ≤ n → AreFixups w n bytes names fs
    → AreFixups w m bytes names fs
sooner w m n bytes names [] le h = tt
sooner w m n bytes names (f ∷ fs) le h =
    let after = h.0.behind in (
      record {
        section = h.0.section;
        kind = h.0.kind;
        behind = omega (arith, le, after);
        within = h.0.within;
        zeros = h.0.zeros;
        symbol = h.0.symbol;
        from = h.0.from;
      },
      h.1,
    )

-- ---- the fixup of a line

filled_is : (pre front back rest : List ℕ) (n : ℕ) → take n (drop (length pre + length front)
    (pre ++ ((front ++ (replicate n 0 ++ back)) ++ rest))) ≡ replicate n 0
filled_is pre front back rest n =
    let a : drop (length pre + length front) (pre ++ ((front ++ (replicate n 0 ++ back)) ++ rest)) ≡ drop (length front)
    ((front ++ (replicate n 0 ++ back)) ++ rest) = drop-append-add pre ((front ++ (replicate n 0 ++ back)) ++ rest) (length front) in
    let b : (front ++ (replicate n 0 ++ back)) ++ rest ≡ front ++ ((replicate n 0 ++ back) ++ rest) =
    append_assoc front (replicate n 0 ++ back) rest in
    let c : drop (length front) (front ++ ((replicate n 0 ++ back) ++ rest)) ≡ (replicate n 0 ++ back)
    ++ rest = drop-append_seam front ((replicate n 0 ++ back) ++ rest) in
    let d : (replicate n 0 ++ back) ++ rest ≡ replicate n 0 ++ (back ++ rest) = append_assoc (replicate n 0) back rest in
    let whole : drop (length pre + length front) (pre ++ ((front ++ (replicate n 0 ++ back)) ++ rest)) ≡ replicate n 0 ++ (back ++ rest) = a
    ∙ ap (λ t. drop (length front) t) b ∙ c ∙ d in
    ap (λ t. take n t) whole ∙ ap (λ k. take k (replicate n 0 ++ (back ++ rest))) (sym (length-replicate n 0))
    ∙ take-append_seam (replicate n 0) (back ++ rest)

zeros_there : (pre sb rest : List ℕ) (u : Use) → Filled sb u → All (λ b. b ≡ 0)
    (take (width u.kind) (drop (length pre + u.at) (pre ++ (sb ++ rest))))
zeros_there pre sb rest u h =
    subst (λ at. All (λ b. b ≡ 0) (take (width u.kind) (drop (length pre + at) (pre ++ (sb ++ rest))))) h.at
    (subst (λ bs. All (λ b. b ≡ 0) (take (width u.kind) (drop (length pre + length h.front) (pre ++ (bs ++ rest))))) (sym h.same)
    (subst (λ zs. All (λ b. b ≡ 0) zs) (sym (filled_is pre h.front h.back rest (width u.kind)))
    (All-replicate (λ b. b ≡ 0) (width u.kind) 0 refl)))

use_within : (sb : List ℕ) (u : Use) → Filled sb u → u.at + width u.kind ≤ length sb
use_within sb u h =
    let a = ap length h.same in
    let b = length-append h.front (replicate (width u.kind) 0 ++ h.back) in
    let c = length-append (replicate (width u.kind) 0) h.back in
    let d : length {A = ℕ} (replicate (width u.kind) 0) ≡ width u.kind = length-replicate (width u.kind) 0 in
    let e = h.at in
    omega (arith, a, b, c, d, e)

from_within : (n m k : ℕ) (o : Option ℕ) → IfSome o (λ x. x ≤ m) → n + m ≤ k → from_of n o ≤ k
from_within n m k None h le = omega arith
from_within n m k (Some x) h le = omega (arith, h, le)

line_fixup : (w : Bool) (pre sb rest : List ℕ) (names : List (List ℕ)) (u : Use) → Filled sb u → KnowsUse names (Some u)
    → FixupFits w (length pre) (pre ++ (sb ++ rest)) names (fixup_of w (length pre) names u)
line_fixup w pre sb rest names u h known =
    let inside = use_within sb u h in
    let a = length-append pre (sb ++ rest) in
    let b = length-append sb rest in
    record {
      section = refl;
      kind = h.kind;
      behind = omega arith;
      within = omega (arith, inside, a, b);
      zeros = zeros_there pre sb rest u h;
      symbol = found_within (bytes_eq u.name) names known;
      from = from_within (length pre) (length sb) (length (pre ++ (sb ++ rest))) u.from h.from (omega (arith, a, b));
    }

line_fixups : (w : Bool) (pre sb rest : List ℕ) (names : List (List ℕ)) (u : Option Use) (fs : List Fixup) → UseFits sb u → KnowsUse names u
    → AreFixups w (length (pre ++ sb)) ((pre ++ sb) ++ rest) names fs
    → AreFixups w (length pre) (pre ++ (sb ++ rest)) names (fixups_of w (length pre) names u ++ fs)
line_fixups w pre sb rest names None fs fit known h =
    let n = length-append pre sb in
    let there : AreFixups w (length (pre ++ sb)) (pre ++ (sb ++ rest)) names fs =
    subst (λ bs. AreFixups w (length (pre ++ sb)) bs names fs) (append_assoc pre sb rest) h in
    sooner w (length pre) (length (pre ++ sb)) (pre ++ (sb ++ rest)) names fs (omega (arith, n)) there
line_fixups w pre sb rest names (Some u) fs fit known h =
    let n = length-append pre sb in
    let inside = use_within sb u fit.1 in
    let there : AreFixups w (length (pre ++ sb)) (pre ++ (sb ++ rest)) names fs =
    subst (λ bs. AreFixups w (length (pre ++ sb)) bs names fs) (append_assoc pre sb rest) h in (
      line_fixup w pre sb rest names u fit.1 known,
      sooner w (length pre + u.at + width u.kind) (length (pre ++ sb)) (pre ++ (sb ++ rest)) names fs (omega (arith, n, inside)) there,
    )

-- ---- the fixups of lines

line_first : (w : Bool) (n : ℕ) (pre sb rest : List ℕ) (names : List (List ℕ)) (u : Option Use) (fs : List Fixup) → length pre ≡ n
    → UseFits sb u → KnowsUse names u
    → AreFixups w (length (pre ++ sb)) ((pre ++ sb) ++ rest) names fs
    → AreFixups w (length pre) (pre ++ (sb ++ rest)) names (fixups_of w n names u ++ fs)
line_first w n pre sb rest names u fs e fit known h =
    subst (λ k. AreFixups w (length pre) (pre ++ (sb ++ rest)) names (fixups_of w k names u ++ fs)) e
    (line_fixups w pre sb rest names u fs fit known h)

pub are_fixups : (w d : Bool) (c k : ℕ) (names : List (List ℕ)) (ls : List Line) (pre : List ℕ) → length pre ≡ cond w k c → AreFit ls
    → Knows names ls
    → AreFixups w (length pre) (pre ++ section_of w d ls) names (fixups_in w (record { in_data = d; code_end = c; data_end = k }) names ls)
unfolding section_of fixups_in
are_fixups w d c k names [] pre e fit known = tt
are_fixups true true c k names (l ∷ ls) pre e fit known =
    let more : length (pre ++ bytes_of l.statement) ≡ k + length (bytes_of l.statement) = length-append pre (bytes_of l.statement)
    ∙ ap (λ n. n + length (bytes_of l.statement)) e in
    line_first true k pre (bytes_of l.statement) (section_of true (data_after true l.statement) ls) names (use_of l.statement)
    (fixups_in true (record {
      in_data = data_after true l.statement;
      code_end = c;
      data_end = k + length (bytes_of l.statement);
    }) names ls) e fit.0.used known.0
    (are_fixups true (data_after true l.statement) c (k + length (bytes_of l.statement)) names ls
    (pre ++ bytes_of l.statement) more fit.1 known.1)
are_fixups true false c k names (l ∷ ls) pre e fit known = are_fixups true (data_after false l.statement)
    (c + length (bytes_of l.statement)) k names ls pre e fit.1 known.1
are_fixups false true c k names (l ∷ ls) pre e fit known = are_fixups false (data_after true l.statement) c
    (k + length (bytes_of l.statement)) names ls pre e fit.1 known.1
are_fixups false false c k names (l ∷ ls) pre e fit known =
    let more : length (pre ++ bytes_of l.statement) ≡ c + length (bytes_of l.statement) = length-append pre (bytes_of l.statement)
    ∙ ap (λ n. n + length (bytes_of l.statement)) e in
    line_first false c pre (bytes_of l.statement) (section_of false (data_after false l.statement) ls) names (use_of l.statement)
    (fixups_in false (record {
      in_data = data_after false l.statement;
      code_end = c + length (bytes_of l.statement);
      data_end = k;
    }) names ls) e fit.0.used known.0
    (are_fixups false (data_after false l.statement) (c + length (bytes_of l.statement)) k names ls
    (pre ++ bytes_of l.statement) more fit.1 known.1)

-- ---- as objects have them

is_fixup : (w : Bool) (start : ℕ) (code contents : List ℕ) (names : List (List ℕ)) (m : ℕ) (f : Fixup) → length names ≡ m
    → length code ≤ most → length contents ≤ most
    → FixupFits w start (cond w contents code) names f → IsFixup code contents m f
unfolding filled
is_fixup true start code contents names m f e c d h =
    let s : f.section ≡ 2 = h.section in
    let from = h.from in
    record {
      section = inr s;
      kind = h.kind;
      within = subst (λ n. f.offset + width f.kind ≤ length (section_bytes code contents n)) (sym s) h.within;
      zeros = subst (λ n. All (λ b. b ≡ 0) (take (width f.kind) (drop f.offset (section_bytes code contents n)))) (sym s) h.zeros;
      symbol = subst (λ n. f.symbol < n) e h.symbol;
      from = omega (arith, from, d);
    }
is_fixup false start code contents names m f e c d h =
    let s : f.section ≡ 1 = h.section in
    let from = h.from in
    record {
      section = inl s;
      kind = h.kind;
      within = subst (λ n. f.offset + width f.kind ≤ length (section_bytes code contents n)) (sym s) h.within;
      zeros = subst (λ n. All (λ b. b ≡ 0) (take (width f.kind) (drop f.offset (section_bytes code contents n)))) (sym s) h.zeros;
      symbol = subst (λ n. f.symbol < n) e h.symbol;
      from = omega (arith, from, c);
    }

pub all_fixups : (w : Bool) (start : ℕ) (code contents : List ℕ) (names : List (List ℕ)) (m : ℕ) (fs : List Fixup) → length names ≡ m
    → length code ≤ most → length contents ≤ most
    → AreFixups w start (cond w contents code) names fs → All (IsFixup code contents m) fs
all_fixups w start code contents names m [] e c d h = All-nil (IsFixup code contents m)
all_fixups w start code contents names m (f ∷ fs) e c d h =
    All-cons (IsFixup code contents m) f fs (is_fixup w start code contents names m f e c d h.0)
    (all_fixups w (f.offset + width f.kind) code contents names m fs e c d h.1)

-- Fixups of this section that begin at an offset or behind it.
abbrev pub Later : Bool → ℕ → Fixup → Type 0
Later w start g = (g.section ≡ section_kind w) × (start ≤ g.offset)

all_later : (w : Bool) (m n : ℕ) (bytes : List ℕ) (names : List (List ℕ)) (fs : List Fixup) → m ≤ n → AreFixups w n bytes names fs
    → All (Later w m) fs
all_later w m n bytes names [] le h = All-nil (Later w m)
all_later w m n bytes names (f ∷ fs) le h =
    let after = h.0.behind in
    All-cons (Later w m) f fs (h.0.section, omega (arith, le, after))
    (all_later w m (f.offset + width f.kind) bytes names fs (omega (arith, le, after)) h.1)

all_behind : (f : Fixup) (w : Bool) (fs : List Fixup) → f.section ≡ section_kind w → All (Later w (f.offset + width f.kind)) fs
    → All (EndsBefore f) fs
all_behind f w fs e h k d below = let p = h k d below in inr (e ∙ sym p.0, p.1)

pub pairs_nil : {X : Type 0} (R : X → X → Type 0) → AllPairs R []
pairs_nil R i j d first below = absurd (omega arith)

pub ascending : (w : Bool) (start : ℕ) (bytes : List ℕ) (names : List (List ℕ)) (fs : List Fixup) → AreFixups w start bytes names fs
    → AllPairs EndsBefore fs
ascending w start bytes names [] h = pairs_nil EndsBefore
ascending w start bytes names (f ∷ fs) h =
    AllPairs-cons EndsBefore f fs (all_behind f w fs h.0.section
    (all_later w (f.offset + width f.kind) (f.offset + width f.kind) bytes names fs (omega arith) h.1))
    (ascending w (f.offset + width f.kind) bytes names fs h.1)

in_data : (f : Fixup) (gs : List Fixup) → f.section ≡ 1 → All (Later true 0) gs → All (EndsBefore f) gs
in_data f gs e h k d below = let p = h k d below in let q : (slice_index_or gs k d).section ≡ 2 = p.0 in inl (omega (arith, e, q))

-- those of the code stand before those of the data
pub both_ascending : (start : ℕ) (code : List ℕ) (names : List (List ℕ)) (fs gs : List Fixup) → AreFixups false start code names fs
    → All (Later true 0) gs → AllPairs EndsBefore gs → AllPairs EndsBefore (fs ++ gs)
both_ascending start code names [] gs h later pairs = pairs
both_ascending start code names (f ∷ fs) gs h later pairs =
    AllPairs-cons EndsBefore f (fs ++ gs)
    (All-append (EndsBefore f) fs gs (all_behind f false fs h.0.section
    (all_later false (f.offset + width f.kind) (f.offset + width f.kind) code names fs (omega arith) h.1))
    (in_data f gs h.0.section later))
    (both_ascending (f.offset + width f.kind) code names fs gs h.1 later pairs)

pub data_later : (bytes : List ℕ) (names : List (List ℕ)) (fs : List Fixup) → AreFixups true 0 bytes names fs → All (Later true 0) fs
data_later bytes names fs h = all_later true 0 0 bytes names fs (omega arith) h
