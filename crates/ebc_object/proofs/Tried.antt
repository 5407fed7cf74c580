-- The conditions on symbols and fixups as they are said, and as they are tried one after the other.
use Rattle.std.proofs.Common.{◌≡◌, ◌≢◌, ℕ, zero, suc, ◌+◌, ◌-◌, ◌^◌, ◌<◌, ◌≤◌, ◌⊎◌, inl, inr, ⊎_elim, Bool, true, false, ◌&&◌, ◌||◌, List}
use Rattle.std.proofs.Common.{[], ◌∷◌, ◌++◌, length, get_or, take, drop, Some, length-append, refl, sym, ap, subst, ◌∙◌, arith}
use Rattle.std.specs.Prelude.{All, AllPairs, bytes_eq, nat_eq, nat_le, nat_lt, slice_get}
use Rattle.std.specs.List.{Any, list_all, list_any}
use Rattle.std.specs.Option.{option_map_or}
use Rattle.std.proofs.lemmas.Bool.{and_from, and_parts, and_right, both_ways, cases_Bool, eq-eqb, eqb-true, le-leb, leb-true, lt-ltb}
use Rattle.std.proofs.lemmas.Bool.{ltb-true, or_cases, or_left, or_right}
use Rattle.std.proofs.lemmas.Bool.Decides.{not_from_Decides}
use Rattle.std.proofs.lemmas.List.{get_or-take, get_or_at, get_or_default, length-take-le, take_more}
use Rattle.std.proofs.lemmas.List.Folds.{Any-from_list_any, list_all-append, list_any_at}
use Rattle.std.proofs.lemmas.List.Quantifiers.{all_pairs_push}
use Rattle.std.proofs.lemmas.List.Sums.{AllPass-from_list_all, list_all-from_AllPass}
use Rattle.std.proofs.lemmas.Slice.Eq.{bytes_eq-Decides}
use Rattle.ebc_base.specs.Names.{is_name}
use Rattle.ebc_base.specs.Tables.{is_named}
use Rattle.ebc_object.specs.declared.object.Fixup.{Fixup}
use Rattle.ebc_object.specs.declared.object.Object.{Object}
use Rattle.ebc_object.specs.declared.object.Symbol.{Symbol}
use Rattle.ebc_object.specs.Objects.{AreNamedApart, EndsBefore, IsFixup, IsObject, IsSymbol, filled, most, section_bytes, width}
use Rattle.ebc_object.specs.Readings.{ends_before, has_zeros, names_of}
use Rattle.ebc_object.specs.Walks.{HasLast, are_few, is_fixup, is_symbol, last_ends_before}

-- ---- names

-- whether a symbol has a name, and whether the name is among those of the symbols
pub any_named : (name : List ℕ) (ss : List Symbol) → list_any (λ (s : Symbol). bytes_eq name s.name) ss ≡ is_named name (names_of ss)
any_named name [] = refl
any_named name (s ∷ ss) = ap (λ b. bytes_eq name s.name || b) (any_named name ss)

other_names : (name : List ℕ) (ss : List Symbol) (k : ℕ) (d : Symbol) → is_named name (names_of ss) ≡ false → k < length ss
    → (get_or ss k d).name ≢ name
other_names name ss k d new within same =
    ⊎_elim
    (λ yes. both_ways (is_named name (names_of ss)) new (sym (any_named name ss)
    ∙ list_any_at (λ (t : Symbol). bytes_eq name t.name) ss k d within yes))
    (λ no. not_from_Decides (bytes_eq name (get_or ss k d).name) (bytes_eq-Decides name (get_or ss k d).name) no (sym same))
    (cases_Bool (bytes_eq name (get_or ss k d).name))

-- one symbol more
pub apart_push : (ss : List Symbol) (s : Symbol) → AllPairs AreNamedApart ss → is_named s.name (names_of ss) ≡ false
    → AllPairs AreNamedApart (ss ++ s ∷ [])
apart_push ss s apart new = all_pairs_push AreNamedApart ss s apart (λ k d within. other_names s.name ss k d new within)

pub apart_more : (ss : List Symbol) (i : ℕ) (s : Symbol) → i < length ss → s ≡ get_or ss i s
    → is_named s.name (names_of (take i ss)) ≡ false → AllPairs AreNamedApart (take i ss) → AllPairs AreNamedApart (take (i + 1) ss)
apart_more ss i s within is new apart =
    let more : take (i + 1) ss ≡ take i ss ++ s ∷ [] = take_more ss i s within ∙ ap (λ t. take i ss ++ t ∷ []) (sym is) in
    subst (AllPairs AreNamedApart) (sym more) (apart_push (take i ss) s apart new)

-- a symbol whose name is among those before
pub named_before : (ss : List Symbol) (i : ℕ) (s : Symbol) → i < length ss → s ≡ get_or ss i s
    → is_named s.name (names_of (take i ss)) ≡ true → ¬ (AllPairs AreNamedApart ss)
named_before ss i s within is named apart =
    let p : Symbol → Bool = λ (t : Symbol). bytes_eq s.name t.name in
    let any : Any (λ t. p t ≡ true) (take i ss) = Any-from_list_any p (take i ss) (any_named s.name (take i ss) ∙ named) in
    let few : length (take i ss) ≡ i = length-take-le i ss (omega arith) in
    let below : any.0 < i = omega (arith, any.2) in
    let here : get_or ss any.0 s ≡ any.1 =
    get_or_default ss any.0 s any.1 (omega arith) ∙ (sym (get_or-take i ss any.0 any.1 below) ∙ any.3) in
    let same : s.name ≡ any.1.name = (bytes_eq-Decides s.name any.1.name).0 any.4 in
    apart any.0 i s below within (ap (λ (t : Symbol). t.name) here ∙ (sym same ∙ ap (λ (t : Symbol). t.name) is))

-- a symbol between others has a name of its own
pub new_from_apart : (before after : List Symbol) (s : Symbol) → AllPairs AreNamedApart (before ++ s ∷ after)
    → is_named s.name (names_of before) ≡ false
new_from_apart before after s apart =
    ⊎_elim
    (λ yes.
    let p : Symbol → Bool = λ (t : Symbol). bytes_eq s.name t.name in
    let any : Any (λ t. p t ≡ true) before = Any-from_list_any p before (any_named s.name before ∙ yes) in
    let same : s.name ≡ any.1.name = (bytes_eq-Decides s.name any.1.name).0 any.4 in
    absurd (apart any.0 (length before) s any.2 (within_append before after s)
    (ap (λ (t : Symbol). t.name) (in_front before after s any.0 any.1 any.2 any.3)
    ∙ (sym same ∙ ap (λ (t : Symbol). t.name) (sym (get_or_at before s after s (length before) refl))))))
    (λ no. no)
    (cases_Bool (is_named s.name (names_of before)))
  where
    within_append : (xs ys : List Symbol) (t : Symbol) → length xs < length (xs ++ t ∷ ys)
    within_append xs ys t = omega (arith, length-append xs (t ∷ ys))

    in_front : (xs ys : List Symbol) (t : Symbol) (k : ℕ) (x : Symbol) → k < length xs → get_or xs k x ≡ x → get_or (xs ++ t ∷ ys) k t ≡ x
    in_front (x ∷ xs) ys t zero y within is = is
    in_front (x ∷ xs) ys t (suc k) y within is = in_front xs ys t k y (omega arith) is
    in_front [] ys t k y within is = absurd (omega arith)

-- ---- places of fixups

EndsBefore-by : (f g : Fixup) → ends_before g.section g.offset f ≡ true → EndsBefore f g
EndsBefore-by f g h =
    ⊎_elim
    (λ below. inl (ltb-true f.section g.section below))
    (λ same. let p = and_parts (nat_eq f.section g.section) (nat_le (f.offset + width f.kind) g.offset) same in
    inr (eqb-true f.section g.section p.0, leb-true (f.offset + width f.kind) g.offset p.1))
    (or_cases (nat_lt f.section g.section) (nat_eq f.section g.section && nat_le (f.offset + width f.kind) g.offset) h)

ends_before-by : (f g : Fixup) → EndsBefore f g → ends_before g.section g.offset f ≡ true
ends_before-by f g h =
    ⊎_elim
    (λ below. or_left (nat_lt f.section g.section) _ (lt-ltb f.section g.section below))
    (λ same. or_right (nat_lt f.section g.section) _ (and_from (nat_eq f.section g.section) _ (eq-eqb f.section g.section same.0)
    (le-leb (f.offset + width f.kind) g.offset same.1)))
    h

EndsBefore-trans : (f g h : Fixup) → EndsBefore f g → EndsBefore g h → EndsBefore f h
EndsBefore-trans f g h first then =
    ⊎_elim
    (λ (below : f.section < g.section). ⊎_elim
    (λ (next : g.section < h.section). inl (omega arith))
    (λ (next : (g.section ≡ h.section) × (g.offset + width g.kind ≤ h.offset)). inl (omega arith))
    then)
    (λ (same : (f.section ≡ g.section) × (f.offset + width f.kind ≤ g.offset)). ⊎_elim
    (λ (next : g.section < h.section). inl (omega arith))
    (λ (next : (g.section ≡ h.section) × (g.offset + width g.kind ≤ h.offset)). inr (omega arith, omega arith))
    then)
    first

-- what ends before a fixup ends before all that comes behind it
passed : (section offset : ℕ) (f g : Fixup) → ends_before section offset f ≡ true → ends_before f.section f.offset g ≡ true
    → ends_before section offset g ≡ true
passed section offset f g behind before =
    let end : Fixup = record { section = section; kind = 1; offset = offset; symbol = 0; from = 0 } in
    ends_before-by g end (EndsBefore-trans g f end (EndsBefore-by g f before) (EndsBefore-by f end behind))

-- one fixup more
pub ascend_push : (fs : List Fixup) (f : Fixup) → AllPairs EndsBefore fs → list_all (ends_before f.section f.offset) fs ≡ true
    → AllPairs EndsBefore (fs ++ f ∷ [])
ascend_push fs f pairs behind =
    all_pairs_push EndsBefore fs f pairs (λ k d within. EndsBefore-by (get_or fs k d) f
    (AllPass-from_list_all (ends_before f.section f.offset) fs behind k d within))

slice_get-push : (fs : List Fixup) (f : Fixup) → slice_get (fs ++ f ∷ []) (length (fs ++ f ∷ []) - 1) ≡ Some f
slice_get-push fs f = ap (slice_get (fs ++ f ∷ [])) (at_end fs) ∙ found fs
  where
    at_end : (gs : List Fixup) → length (gs ++ f ∷ []) - 1 ≡ length gs
    at_end gs = omega (arith, length-append gs (f ∷ []))

    found : (gs : List Fixup) → slice_get (gs ++ f ∷ []) (length gs) ≡ Some f
    found [] = refl
    found (g ∷ gs) = found gs

pub HasLast-push : (fs : List Fixup) (f : Fixup) → list_all (ends_before f.section f.offset) fs ≡ true → HasLast (fs ++ f ∷ [])
HasLast-push fs f behind =
    record {
      last = λ section offset.
          let test : Fixup → Bool = ends_before section offset in
          let end : last_ends_before section offset (fs ++ f ∷ []) ≡ test f = ap (λ o. option_map_or test o true) (slice_get-push fs f) in
          list_all-append test fs (f ∷ []) ∙ (by_last section offset (test f) refl ∙ sym end);
    }
  where
    by_last : (section offset : ℕ) (b : Bool) → ends_before section offset f ≡ b
        → (list_all (ends_before section offset) fs && (ends_before section offset f && true)) ≡ b
    by_last section offset true is =
        let all : list_all (ends_before section offset) fs ≡ true =
        list_all-from_AllPass (ends_before section offset) fs
        (λ k d within. passed section offset f (get_or fs k d) is
        (AllPass-from_list_all (ends_before f.section f.offset) fs behind k d within)) in
        rw (all, is) refl
    by_last section offset false is = rw is (and_right (list_all (ends_before section offset) fs) false refl)

pub HasLast-none : HasLast []
HasLast-none = record { last = λ section offset. refl }

pub ascend_more : (fs : List Fixup) (i : ℕ) (f : Fixup) → i < length fs → f ≡ get_or fs i f
    → last_ends_before f.section f.offset (take i fs) ≡ true → HasLast (take i fs) → AllPairs EndsBefore (take i fs)
    → (AllPairs EndsBefore (take (i + 1) fs)) × HasLast (take (i + 1) fs)
ascend_more fs i f within is behind last pairs =
    let more : take (i + 1) fs ≡ take i fs ++ f ∷ [] = take_more fs i f within ∙ ap (λ t. take i fs ++ t ∷ []) (sym is) in
    let all : list_all (ends_before f.section f.offset) (take i fs) ≡ true = last.last f.section f.offset ∙ behind in (
      subst (AllPairs EndsBefore) (sym more) (ascend_push (take i fs) f pairs all),
      subst HasLast (sym more) (HasLast-push (take i fs) f all),
    )

-- a fixup between others begins behind those before it
pub behind_from_ascend : (before after : List Fixup) (f : Fixup) → AllPairs EndsBefore (before ++ f ∷ after)
    → list_all (ends_before f.section f.offset) before ≡ true
behind_from_ascend before after f pairs =
    list_all-from_AllPass (ends_before f.section f.offset) before
    (λ k d within. ends_before-by (get_or before k d) f
    (subst (EndsBefore (get_or before k d)) (get_or_at before f after d (length before) refl)
    (subst (λ g. EndsBefore g (get_or (before ++ f ∷ after) (length before) d)) (in_front before k d within)
    (pairs k (length before) d within (omega (arith, length-append before (f ∷ after)))))))
  where
    in_front : (xs : List Fixup) (k : ℕ) (d : Fixup) → k < length xs → get_or (xs ++ f ∷ after) k d ≡ get_or xs k d
    in_front (x ∷ xs) zero d within = refl
    in_front (x ∷ xs) (suc k) d within = in_front xs k d (omega arith)
    in_front [] k d within = absurd (omega arith)

-- ---- symbols and fixups by themselves

pub zeros_by : (bytes : List ℕ) (at n : ℕ) → has_zeros bytes at n ≡ true → (at + n ≤ length bytes)
    × (All (λ b. b ≡ 0) (take n (drop at bytes)))
unfolding has_zeros
zeros_by bytes at n h =
    let p = and_parts (nat_le (at + n) (length bytes)) (list_all (λ b. nat_eq b 0) (take n (drop at bytes))) h in (
      leb-true (at + n) (length bytes) p.0,
      λ k d within. eqb-true (get_or (take n (drop at bytes)) k d) 0
          (AllPass-from_list_all (λ b. nat_eq b 0) (take n (drop at bytes)) p.1 k d within),
    )

pub by_zeros : (bytes : List ℕ) (at n : ℕ) → at + n ≤ length bytes → All (λ b. b ≡ 0) (take n (drop at bytes)) → has_zeros bytes at n ≡ true
unfolding has_zeros
by_zeros bytes at n within zeros =
    and_from (nat_le (at + n) (length bytes)) _ (le-leb (at + n) (length bytes) within)
    (list_all-from_AllPass (λ b. nat_eq b 0) (take n (drop at bytes))
    (λ k d below. eq-eqb (get_or (take n (drop at bytes)) k d) 0 (zeros k d below)))

pub IsSymbol-by : (code contents : List ℕ) (s : Symbol) → is_symbol code contents s ≡ true → IsSymbol code contents s
unfolding is_symbol
IsSymbol-by code contents s h =
    let a = and_parts (is_name s.name) _ h in
    let b = and_parts (nat_le s.kind 2) _ a.1 in
    let c = and_parts (nat_le s.global 1) _ b.1 in
    record {
      name = a.0;
      kind = leb-true s.kind 2 b.0;
      global = leb-true s.global 1 c.0;
      offset = leb-true s.offset (length (section_bytes code contents s.kind)) c.1;
    }

pub by_symbol : (code contents : List ℕ) (s : Symbol) → IsSymbol code contents s → is_symbol code contents s ≡ true
unfolding is_symbol
by_symbol code contents s is =
    and_from (is_name s.name) _ is.name
    (and_from (nat_le s.kind 2) _ (le-leb s.kind 2 is.kind)
    (and_from (nat_le s.global 1) _ (le-leb s.global 1 is.global)
    (le-leb s.offset (length (section_bytes code contents s.kind)) is.offset)))

one_or_two : (n : ℕ) → 1 ≤ n → n ≤ 2 → (n ≡ 1) ⊎ (n ≡ 2)
one_or_two n low high = grind arith

pub from_one_to_two : (n : ℕ) → (n ≡ 1) ⊎ (n ≡ 2) → (1 ≤ n) × (n ≤ 2)
from_one_to_two n h = ⊎_elim (λ (one : n ≡ 1). (omega arith, omega arith)) (λ (two : n ≡ 2). (omega arith, omega arith)) h

pub IsFixup-by : (code contents : List ℕ) (symbols : ℕ) (f : Fixup) → is_fixup code contents symbols f ≡ true
    → IsFixup code contents symbols f
unfolding is_fixup filled
IsFixup-by code contents symbols f h =
    let a = and_parts (nat_le 1 f.section) _ h in
    let b = and_parts (nat_le f.section 2) _ a.1 in
    let c = and_parts (nat_le 1 f.kind) _ b.1 in
    let d = and_parts (nat_le f.kind 5) _ c.1 in
    let e = and_parts (has_zeros (section_bytes code contents f.section) f.offset (width f.kind)) _ d.1 in
    let g = and_parts (nat_lt f.symbol symbols) _ e.1 in
    let z = zeros_by (section_bytes code contents f.section) f.offset (width f.kind) e.0 in
    record {
      section = one_or_two f.section (leb-true 1 f.section a.0) (leb-true f.section 2 b.0);
      kind = (leb-true 1 f.kind c.0, leb-true f.kind 5 d.0);
      within = z.0;
      zeros = z.1;
      symbol = ltb-true f.symbol symbols g.0;
      from = ltb-true f.from (2 ^ 32) g.1;
    }

pub by_fixup : (code contents : List ℕ) (symbols : ℕ) (f : Fixup) → IsFixup code contents symbols f
    → is_fixup code contents symbols f ≡ true
unfolding is_fixup filled
by_fixup code contents symbols f is =
    let s = from_one_to_two f.section is.section in
    and_from (nat_le 1 f.section) _ (le-leb 1 f.section s.0)
    (and_from (nat_le f.section 2) _ (le-leb f.section 2 s.1)
    (and_from (nat_le 1 f.kind) _ (le-leb 1 f.kind is.kind.0)
    (and_from (nat_le f.kind 5) _ (le-leb f.kind 5 is.kind.1)
    (and_from (has_zeros (section_bytes code contents f.section) f.offset (width f.kind)) _
    (by_zeros (section_bytes code contents f.section) f.offset (width f.kind) is.within is.zeros)
    (and_from (nat_lt f.symbol symbols) _ (lt-ltb f.symbol symbols is.symbol) (lt-ltb f.from (2 ^ 32) is.from))))))

-- ---- the whole object

pub IsObject-by :
    (o : Object) → are_few o ≡ true → list_all (is_symbol o.code o.contents) o.symbols ≡ true → AllPairs AreNamedApart o.symbols →
    list_all (is_fixup o.code o.contents (length o.symbols)) o.fixups ≡ true → AllPairs EndsBefore o.fixups → IsObject o
IsObject-by o few symbols names fixups ascend =
    let a = and_parts (nat_le (length o.code) most) _ few in
    let b = and_parts (nat_le (length o.contents) most) _ a.1 in
    let c = and_parts (nat_le (length o.symbols) most) _ b.1 in
    record {
      code_size = leb-true (length o.code) most a.0;
      contents_size = leb-true (length o.contents) most b.0;
      symbol_count = leb-true (length o.symbols) most c.0;
      fixup_count = leb-true (length o.fixups) most c.1;
      symbols = λ k d within. IsSymbol-by o.code o.contents (get_or o.symbols k d)
          (AllPass-from_list_all (is_symbol o.code o.contents) o.symbols symbols k d within);
      names = names;
      fixups = λ k d within. IsFixup-by o.code o.contents (length o.symbols) (get_or o.fixups k d)
          (AllPass-from_list_all (is_fixup o.code o.contents (length o.symbols)) o.fixups fixups k d within);
      ascend = ascend;
    }

pub symbols-of : (o : Object) → IsObject o → list_all (is_symbol o.code o.contents) o.symbols ≡ true
symbols-of o is = list_all-from_AllPass (is_symbol o.code o.contents) o.symbols
    (λ k d within. by_symbol o.code o.contents (get_or o.symbols k d) (is.symbols k d within))

pub fixups-of : (o : Object) → IsObject o → list_all (is_fixup o.code o.contents (length o.symbols)) o.fixups ≡ true
fixups-of o is = list_all-from_AllPass (is_fixup o.code o.contents (length o.symbols)) o.fixups
    (λ k d within. by_fixup o.code o.contents (length o.symbols) (get_or o.fixups k d) (is.fixups k d within))

-- as they are tried over the parts of an object
pub symbols_tried :
    (o : Object) (code contents : List ℕ) (symbols : List Symbol) (r : Bool) → code ≡ o.code → contents ≡ o.contents → symbols ≡ o.symbols →
    r ≡ list_all (is_symbol code contents) symbols → list_all (is_symbol o.code o.contents) o.symbols ≡ r
symbols_tried o code contents symbols r c d s is = rw (← c, ← d, ← s) (sym is)

pub fixups_tried :
    (o : Object) (code contents : List ℕ) (symbols : List Symbol) (fixups : List Fixup) (r : Bool) → code ≡ o.code → contents ≡ o.contents
    → symbols ≡ o.symbols →
    fixups ≡ o.fixups → r ≡ list_all (is_fixup code contents (length symbols)) fixups
    → list_all (is_fixup o.code o.contents (length o.symbols)) o.fixups ≡ r
fixups_tried o code contents symbols fixups r c d s f is = rw (← c, ← d, ← s, ← f) (sym is)
