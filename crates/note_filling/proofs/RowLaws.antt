-- What is kept of a table whose places are put.
use Rattle.note_filling.proofs.Common.{◌≡◌, ℕ, false, List, [], ◌∷◌, Option, Some, None, sym, ap, ◌∙◌, subst, inl, inr, refl, bytes_eq}
use Rattle.note_filling.proofs.Common.{bytes_eq-Decides, Data, Members, get_member, IsPlacedAs, IsExtended, IsReplaced}
use Rattle.std.proofs.lemmas.Bool.{or_cases, or_parts, cases_Bool}
use Rattle.ebc_base.specs.Tables.{is_named}
use Rattle.note_filling.specs.{Kept.IsRowKept, Members.MayBePut, Members.StaysOut}

-- what stands at a key where nothing stood
abbrev pub Fills : List (List ℕ × Option Data) → List ℕ → Members → Members → Type 0
Fills puts key old new = (d : Data) → get_member key old ≡ None → get_member key new ≡ Some d → MayBePut puts key d

pub stays_out : (puts : List (List ℕ × Option Data)) (key : List ℕ) (old new : Members) → StaysOut key old new → Fills puts key old new
stays_out puts key old new stays d none there = absurd (let no = sym (stays none) ∙ there in cc)

pub kept_none : (place : List ℕ → Option ℕ) (ms : Members) → IsRowKept place [] [] ms ms
kept_none place ms = record {
  labels = λ key d named there. absurd cc;
  rest = λ key d other there. there;
  left = λ key d none there. absurd (let no = sym none ∙ there in cc);
}

pub kept_one : (place : List ℕ → Option ℕ) (puts : List (List ℕ × Option Data)) (k : List ℕ) (old new : Members)
    → IsReplaced place k old new → Fills puts k old new → IsRowKept place (k ∷ []) puts old new
kept_one place puts k old new put fills = record {
  labels = λ key d named there. elim (or_cases (bytes_eq key k) (is_named key []) named) [
    | inl same ↦ at key d ((bytes_eq-Decides key k).0 same) there
    | inr none ↦ absurd cc
  ];
  rest = λ key d other there. put.elsewhere key (or_parts (bytes_eq key k) (is_named key []) other).0 ∙ there;
  left = λ key d none there. elim (cases_Bool (bytes_eq key k)) [
    | inl same ↦ subst (λ name. Fills puts name old new) (sym ((bytes_eq-Decides key k).0 same)) fills d none there
    | inr other ↦ absurd (let no = sym none ∙ (sym (put.elsewhere key other) ∙ there) in cc)
  ];
}
  where
    at : (key : List ℕ) (d : Data) → key ≡ k → get_member key old ≡ Some d
        → (e : Data) × ((get_member key new ≡ Some e) × IsPlacedAs place d e)
    at key d same there =
        let found = put.here d (ap (λ name. get_member name old) (sym same) ∙ there) in
        (found.0, (ap (λ name. get_member name new) same ∙ found.1.0, found.1.1))

pub kept_two : (place : List ℕ → Option ℕ) (puts : List (List ℕ × Option Data)) (k l : List ℕ) (old mid new : Members)
    → bytes_eq k l ≡ false → bytes_eq l k ≡ false → IsReplaced place k old mid → Fills puts k old mid
    → IsReplaced place l mid new → Fills puts l mid new → IsRowKept place (k ∷ l ∷ []) puts old new
kept_two place puts k l old mid new apart back first fills then fills_then = record {
  labels = λ key d named there. elim (or_cases (bytes_eq key k) (is_named key (l ∷ [])) named) [
    | inl same ↦ at_first key d ((bytes_eq-Decides key k).0 same) there
    | inr more ↦ elim (or_cases (bytes_eq key l) (is_named key []) more) [
      | inl same ↦ at_then key d ((bytes_eq-Decides key l).0 same) there
      | inr none ↦ absurd cc
    ]
  ];
  rest = λ key d other there.
      let sides = or_parts (bytes_eq key k) (is_named key (l ∷ [])) other in
      then.elsewhere key (or_parts (bytes_eq key l) (is_named key []) sides.1).0 ∙ (first.elsewhere key sides.0 ∙ there);
  left = λ key d none there. elim (cases_Bool (bytes_eq key k)) [
    | inl same ↦ fills_first key d ((bytes_eq-Decides key k).0 same) none there
    | inr other ↦ elim (cases_Bool (bytes_eq key l)) [
      | inl same ↦ fills_second key d ((bytes_eq-Decides key l).0 same) none there
      | inr last ↦ absurd (let no = sym none ∙ (sym (then.elsewhere key last ∙ first.elsewhere key other) ∙ there) in cc)
    ]
  ];
}
  where
    at_first : (key : List ℕ) (d : Data) → key ≡ k → get_member key old ≡ Some d
        → (e : Data) × ((get_member key new ≡ Some e) × IsPlacedAs place d e)
    at_first key d same there =
        let found = first.here d (ap (λ name. get_member name old) (sym same) ∙ there) in
        (found.0, (ap (λ name. get_member name new) same ∙ (then.elsewhere k apart ∙ found.1.0), found.1.1))

    at_then : (key : List ℕ) (d : Data) → key ≡ l → get_member key old ≡ Some d
        → (e : Data) × ((get_member key new ≡ Some e) × IsPlacedAs place d e)
    at_then key d same there =
        let found = then.here d (first.elsewhere l back ∙ (ap (λ name. get_member name old) (sym same) ∙ there)) in
        (found.0, (ap (λ name. get_member name new) same ∙ found.1.0, found.1.1))

    fills_first : (key : List ℕ) (d : Data) → key ≡ k → get_member key old ≡ None → get_member key new ≡ Some d → MayBePut puts key d
    fills_first key d same none there =
        let none_k : get_member k old ≡ None = ap (λ name. get_member name old) (sym same) ∙ none in
        let there_k : get_member k new ≡ Some d = ap (λ name. get_member name new) (sym same) ∙ there in
        subst (λ name. MayBePut puts name d) (sym same) (fills d none_k (sym (then.elsewhere k apart) ∙ there_k))

    fills_second : (key : List ℕ) (d : Data) → key ≡ l → get_member key old ≡ None → get_member key new ≡ Some d → MayBePut puts key d
    fills_second key d same none there =
        let none_l : get_member l old ≡ None = ap (λ name. get_member name old) (sym same) ∙ none in
        let there_l : get_member l new ≡ Some d = ap (λ name. get_member name new) (sym same) ∙ there in
        subst (λ name. MayBePut puts name d) (sym same) (fills_then d (first.elsewhere l back ∙ none_l) there_l)

pub kept_more : (place : List ℕ → Option ℕ) (keys : List (List ℕ)) (puts : List (List ℕ × Option Data)) (old mid new : Members)
    → IsRowKept place keys puts old mid → IsExtended puts mid new → IsRowKept place keys puts old new
kept_more place keys puts old mid new kept more = record {
  labels = λ key d named there.
      let found = kept.labels key d named there in (found.0, (more.kept key found.0 found.1.0, found.1.1));
  rest = λ key d other there. more.kept key d (kept.rest key d other there);
  left = λ key d none there. put_between key d (get_member key mid) refl (λ e. kept.left key e none) there;
}
  where
    put_between : (key : List ℕ) (d : Data) (o : Option Data) → get_member key mid ≡ o
        → ((e : Data) → get_member key mid ≡ Some e → MayBePut puts key e) → get_member key new ≡ Some d → MayBePut puts key d
    put_between key d None is before there = more.put key d is there
    put_between key d (Some e) is before there =
        let stays = more.kept key e is in
        let same : e ≡ d = cc in
        subst (MayBePut puts key) same (before e is)
