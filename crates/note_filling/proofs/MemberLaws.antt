-- What stands at the keys of a table after something is put at one.
use Rattle.note_filling.proofs.Common.{◌≡◌, ℕ, true, false, List, [], ◌∷◌, Option, Some, None, Global, refl, sym, ap, ◌∙◌, subst, inl, inr}
use Rattle.note_filling.proofs.Common.{bytes_eq, bytes_eq-Decides, Data, Members, get_member, view, members_view, Value, Entry, IsExtended}
use Rattle.note_filling.proofs.Common.{put_member, put_missing_member}
use Rattle.std.proofs.Common.{cond, String, Ordering, Less, Equal, Greater, string_bytes}
use Rattle.std.proofs.{Common.nat_cmp, Common.is_eq, lemmas.Cmp.nat_list_cmp_total, lemmas.Map.Text.is_eq-slice_cmp, lemmas.Bool.cases_Bool}
use Rattle.note_filling.proofs.Common.{Result, Ok, Err}
use Rattle.std.specs.{Option.unwrap_or, Prelude.OnOk}
use Rattle.std.specs.{Cmp.tied_itself, Cmp.Lexicographic.slice_cmp, Ordering.match_ordering, BTreeMap.insert_entry, String.string_cmp}
use Rattle.toml.specs.Data.{no_members, member}
use Rattle.note_filling.specs.Members.{MayBePut, put_where}

-- ---- the map of a table

view_matched : (o : Ordering) (a b c : List Entry)
    → members_view (match_ordering o a b c) ≡ match_ordering o (members_view a) (members_view b) (members_view c)
view_matched Less a b c = refl
view_matched Equal a b c = refl
view_matched Greater a b c = refl

pub view-insert : (es : List Entry) (k : String Global) (v : Value)
    → members_view (insert_entry string_cmp es k v) ≡ put_member (string_bytes k) (view v) (members_view es)
unfolding put_member
view-insert [] k v = refl
view-insert (e ∷ es) k v = view_matched (string_cmp k e.0) _ _ _ ∙ rw (view-insert es k v)

-- ---- a look-up

-- a look-up at the first of the members
get_first : (q l : List ℕ) (d : Data) (ms : Members) → get_member q (member l d ms) ≡ cond (bytes_eq q l) (Some d) (get_member q ms)
get_first q l d ms = by_order (slice_cmp nat_cmp q l) ∙ ap (λ b. cond b (Some d) (get_member q ms)) (is_eq-slice_cmp q l)
  where
    by_order : (o : Ordering) → match_ordering o (get_member q ms) (Some d) (get_member q ms) ≡ cond (is_eq o) (Some d) (get_member q ms)
    by_order Less = refl
    by_order Equal = refl
    by_order Greater = refl

same_key : (k l : List ℕ) → slice_cmp nat_cmp k l ≡ Equal → k ≡ l
same_key k l e =
    let d = bytes_eq-Decides k l in d.0 (sym (is_eq-slice_cmp k l) ∙ ap is_eq e)

pub bytes_eq-self : (k : List ℕ) → bytes_eq k k ≡ true
bytes_eq-self k = sym (is_eq-slice_cmp k k) ∙ ap is_eq (tied_itself nat_list_cmp_total k)

-- the look-up at a key where something was put
get_put_at : (o : Ordering) (k : List ℕ) (d : Data) (l : List ℕ) (e : Data) (ms : Members) → slice_cmp nat_cmp k l ≡ o
    → get_member k (put_member k d ms) ≡ Some d
    → get_member k (match_ordering o (member k d (member l e ms)) (member l d ms) (member l e (put_member k d ms))) ≡ Some d
get_put_at Less k d l e ms is later = get_first k k d (member l e ms) ∙ rw (bytes_eq-self k)
get_put_at Equal k d l e ms is later = get_first k l d ms ∙ rw (← same_key k l is, bytes_eq-self k)
get_put_at Greater k d l e ms is later =
    get_first k l e (put_member k d ms)
    ∙ (ap (λ b. cond b (Some e) (get_member k (put_member k d ms))) (sym (is_eq-slice_cmp k l) ∙ ap is_eq is) ∙ later)

pub get-put : (k : List ℕ) (d : Data) (ms : Members) → get_member k (put_member k d ms) ≡ Some d
unfolding put_member
get-put k d no_members = get_first k k d no_members ∙ rw (bytes_eq-self k)
get-put k d (member l e ms) = get_put_at (slice_cmp nat_cmp k l) k d l e ms refl (get-put k d ms)

-- the look-up at another key
get_other_at : (o : Ordering) (q k : List ℕ) (d : Data) (l : List ℕ) (e : Data) (ms : Members) → slice_cmp nat_cmp k l ≡ o
    → bytes_eq q k ≡ false → get_member q (put_member k d ms) ≡ get_member q ms
    → get_member q (match_ordering o (member k d (member l e ms)) (member l d ms) (member l e (put_member k d ms)))
    ≡ get_member q (member l e ms)
get_other_at Less q k d l e ms is other later = get_first q k d (member l e ms) ∙ rw other
get_other_at Equal q k d l e ms is other later =
    let apart : bytes_eq q l ≡ false = subst (λ key. bytes_eq q key ≡ false) (same_key k l is) other in
    get_first q l d ms ∙ (ap (λ b. cond b (Some d) (get_member q ms)) apart
    ∙ sym (get_first q l e ms ∙ ap (λ b. cond b (Some e) (get_member q ms)) apart))
get_other_at Greater q k d l e ms is other later =
    get_first q l e (put_member k d ms)
    ∙ (ap (λ found. cond (bytes_eq q l) (Some e) found) later ∙ sym (get_first q l e ms))

pub get-put_other : (q k : List ℕ) (d : Data) (ms : Members) → bytes_eq q k ≡ false → get_member q (put_member k d ms) ≡ get_member q ms
unfolding put_member
get-put_other q k d no_members other = get_first q k d no_members ∙ rw other
get-put_other q k d (member l e ms) other =
    get_other_at (slice_cmp nat_cmp k l) q k d l e ms refl other (get-put_other q k d ms other)

-- ---- where nothing stood

get_where_other : (o : Option Data) (q k : List ℕ) (d : Data) (ms : Members) → bytes_eq q k ≡ false
    → get_member q (put_where o k d ms) ≡ get_member q ms
get_where_other None q k d ms other = get-put_other q k d ms other
get_where_other (Some e) q k d ms other = refl

pub get-put_missing_other : (q k : List ℕ) (d : Data) (ms : Members) → bytes_eq q k ≡ false
    → get_member q (put_missing_member k d ms) ≡ get_member q ms
get-put_missing_other q k d ms other = get_where_other (get_member k ms) q k d ms other

get_where_put : (o : Option Data) (k : List ℕ) (d : Data) (ms : Members) → get_member k ms ≡ o
    → get_member k (put_where o k d ms) ≡ Some (unwrap_or o d)
get_where_put None k d ms is = get-put k d ms
get_where_put (Some e) k d ms is = is

-- what stands at the key: what stood there, or else what was put
pub get-put_missing : (k : List ℕ) (d : Data) (ms : Members)
    → get_member k (put_missing_member k d ms) ≡ Some (unwrap_or (get_member k ms) d)
get-put_missing k d ms = get_where_put (get_member k ms) k d ms refl

-- a table is extended by a value at a key where it may be put
pub extended-by : (puts : List (List ℕ × Option Data)) (k : List ℕ) (d : Data) (old new : Members) → new ≡ put_missing_member k d old
    → MayBePut puts k d → IsExtended puts old new
extended-by puts k d old new is may = record {
  kept = λ q e there. elim (cases_Bool (bytes_eq q k)) [
    | inl same ↦ stays q e ((bytes_eq-Decides q k).0 same) there
    | inr other ↦ beside q other ∙ there
  ];
  put = λ q e none there. elim (cases_Bool (bytes_eq q k)) [
    | inl same ↦ fills q e ((bytes_eq-Decides q k).0 same) none there
    | inr other ↦ absurd (let no = sym none ∙ (sym (beside q other) ∙ there) in cc)
  ];
}
  where
    here : get_member k new ≡ Some (unwrap_or (get_member k old) d)
    here = ap (get_member k) is ∙ get-put_missing k d old

    beside : (q : List ℕ) → bytes_eq q k ≡ false → get_member q new ≡ get_member q old
    beside q other = ap (get_member q) is ∙ get-put_missing_other q k d old other

    stays : (q : List ℕ) (e : Data) → q ≡ k → get_member q old ≡ Some e → get_member q new ≡ Some e
    stays q e same there =
        let stood : get_member k old ≡ Some e = ap (λ name. get_member name old) (sym same) ∙ there in
        ap (λ name. get_member name new) same ∙ (here ∙ ap (λ o. Some (unwrap_or o d)) stood)

    fills : (q : List ℕ) (e : Data) → q ≡ k → get_member q old ≡ None → get_member q new ≡ Some e → MayBePut puts q e
    fills q e same none there =
        let gone : get_member k old ≡ None = ap (λ name. get_member name old) (sym same) ∙ none in
        let made : get_member k new ≡ Some d = here ∙ ap (λ o. Some (unwrap_or o d)) gone in
        let found : get_member k new ≡ Some e = ap (λ name. get_member name new) (sym same) ∙ there in
        let one : d ≡ e = let both = sym made ∙ found in cc in
        subst (λ name. MayBePut puts name e) (sym same) (subst (MayBePut puts k) one may)

-- two times
pub extended-twice : (puts : List (List ℕ × Option Data)) (old mid new : Members) → IsExtended puts old mid → IsExtended puts mid new
    → IsExtended puts old new
extended-twice puts old mid new first then = record {
  kept = λ q e there. then.kept q e (first.kept q e there);
  put = λ q e none there. between q e (get_member q mid) refl none there;
}
  where
    between : (q : List ℕ) (e : Data) (o : Option Data) → get_member q mid ≡ o → get_member q old ≡ None → get_member q new ≡ Some e
        → MayBePut puts q e
    between q e None is none there = then.put q e is there
    between q e (Some f) is none there =
        let stays = then.kept q f is in
        let same : f ≡ e = cc in
        subst (MayBePut puts q) same (first.put q f none is)

-- so where a value is put by a call that may fail
pub extended-where : {E : Type 0} (r : Result (Unit {0}) E) (puts : List (List ℕ × Option Data)) (k : List ℕ) (d : Data) (old new : Members)
    → OnOk r (new ≡ put_missing_member k d old) → MayBePut puts k d → OnOk r (IsExtended puts old new)
extended-where (Ok u) puts k d old new is may = extended-by puts k d old new is may
extended-where (Err e) puts k d old new is may = tt
