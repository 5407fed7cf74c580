-- What stands in a text that is made of filled lists.
use Rattle.note_filling.proofs.Common.{◌≡◌, ℕ, false, List, [], Option, Some, None, Vec, Global, refl, ap, ◌∙◌, bytes_eq, codes, Data}
use Rattle.note_filling.proofs.Common.{Members, get_member, Value, put_missing_member, AreFilledLists, IsAssembled, list_or_old, Lists}
use Rattle.note_filling.proofs.Common.{integer, string}
use Rattle.std.proofs.{Common.pos, lemmas.Bool.or_parts}
use Rattle.std.specs.Option.{unwrap_or}
use Rattle.note_filling.specs.{Kept.IsTextKept, Views.AreArranged, Views.put_items}
use Rattle.note_filling.proofs.{ListLaws.list-kept, ListLaws.list-mixed, MemberLaws.get-put_missing}
use Rattle.note_filling.proofs.MemberLaws.{get-put, get-put_missing_other, get-put_other}
use Rattle.note_draft.specs.declared.finding.TableList.TheVariants as lists

here : (k : List ℕ) (values : Option (Vec Value Global)) (old new : Members) → new ≡ put_items k values old
    → get_member k new ≡ list_or_old values (get_member k old)
here k None old new is = ap (get_member k) is
here k (Some values) old new is = ap (get_member k) is ∙ get-put k _ old

other : (q k : List ℕ) (values : Option (Vec Value Global)) (old new : Members) → new ≡ put_items k values old → bytes_eq q k ≡ false
    → get_member q new ≡ get_member q old
other q k None old new is apart = ap (get_member q) is
other q k (Some values) old new is apart = ap (get_member q) is ∙ get-put_other q k _ old apart

beside : (q k : List ℕ) (d : Data) (old new : Members) → new ≡ put_missing_member k d old → bytes_eq q k ≡ false
    → get_member q new ≡ get_member q old
beside q k d old new is apart = ap (get_member q) is ∙ get-put_missing_other q k d old apart

or_put : (k : List ℕ) (d : Data) (old new : Members) → new ≡ put_missing_member k d old
    → get_member k new ≡ Some (unwrap_or (get_member k old) d)
or_put k d old new is = ap (get_member k) is ∙ get-put_missing k d old

-- A text step by step: its version and its entry, and its lists.
pub record Steps (name : List ℕ) (made : Lists) (m0 m1 m2 m3 m4 m5 m6 m7 : Members) : Type 0 where
  pub version : m1 ≡ put_missing_member (codes "version") (integer (pos 1)) m0
  pub entry : m2 ≡ put_missing_member (codes "entry") (string name) m1
  pub statics : m3 ≡ put_items (codes "static") made.statics m2
  pub thunks : m4 ≡ put_items (codes "thunk") made.thunks m3
  pub functions : m5 ≡ put_items (codes "function") made.functions m4
  pub points : m6 ≡ put_items (codes "point") made.points m5
  pub sites : m7 ≡ put_items (codes "site") made.sites m6

-- what the lists leave as it is
pub behind : (q name : List ℕ) (made : Lists) (m0 m1 m2 m3 m4 m5 m6 m7 : Members) → Steps name made m0 m1 m2 m3 m4 m5 m6 m7
    → bytes_eq q (codes "static") ≡ false → bytes_eq q (codes "thunk") ≡ false → bytes_eq q (codes "function") ≡ false
    → bytes_eq q (codes "point") ≡ false → bytes_eq q (codes "site") ≡ false → get_member q m7 ≡ get_member q m2
behind q name made m0 m1 m2 m3 m4 m5 m6 m7 s static thunk function point site =
    other q (codes "site") made.sites m6 m7 s.sites site
    ∙ (other q (codes "point") made.points m5 m6 s.points point
    ∙ (other q (codes "function") made.functions m4 m5 s.functions function
    ∙ (other q (codes "thunk") made.thunks m3 m4 s.thunks thunk ∙ other q (codes "static") made.statics m2 m3 s.statics static)))

pub assembled_by : (name : List ℕ) (made : Lists) (m0 m1 m2 m3 m4 m5 m6 m7 : Members) → Steps name made m0 m1 m2 m3 m4 m5 m6 m7
    → IsAssembled name made m0 m7
assembled_by name made m0 m1 m2 m3 m4 m5 m6 m7 s = record {
  version = behind (codes "version") name made m0 m1 m2 m3 m4 m5 m6 m7 s refl refl refl refl refl
      ∙ (beside (codes "version") (codes "entry") (string name) m1 m2 s.entry refl
      ∙ or_put (codes "version") (integer (pos 1)) m0 m1 s.version);
  entry = behind (codes "entry") name made m0 m1 m2 m3 m4 m5 m6 m7 s refl refl refl refl refl
      ∙ (or_put (codes "entry") (string name) m1 m2 s.entry
      ∙ ap (λ o. Some (unwrap_or o (string name))) (beside (codes "entry") (codes "version") (integer (pos 1)) m0 m1 s.version refl));
  statics = other (codes "static") (codes "site") made.sites m6 m7 s.sites refl
      ∙ (other (codes "static") (codes "point") made.points m5 m6 s.points refl
      ∙ (other (codes "static") (codes "function") made.functions m4 m5 s.functions refl
      ∙ (other (codes "static") (codes "thunk") made.thunks m3 m4 s.thunks refl
      ∙ (here (codes "static") made.statics m2 m3 s.statics ∙ ap (list_or_old made.statics) (head (codes "static") refl refl)))));
  thunks = other (codes "thunk") (codes "site") made.sites m6 m7 s.sites refl
      ∙ (other (codes "thunk") (codes "point") made.points m5 m6 s.points refl
      ∙ (other (codes "thunk") (codes "function") made.functions m4 m5 s.functions refl
      ∙ (here (codes "thunk") made.thunks m3 m4 s.thunks
      ∙ ap (list_or_old made.thunks) (other (codes "thunk") (codes "static") made.statics m2 m3 s.statics refl ∙ head (codes "thunk") refl
      refl))));
  functions = other (codes "function") (codes "site") made.sites m6 m7 s.sites refl
      ∙ (other (codes "function") (codes "point") made.points m5 m6 s.points refl
      ∙ (here (codes "function") made.functions m4 m5 s.functions
      ∙ ap (list_or_old made.functions) (other (codes "function") (codes "thunk") made.thunks m3 m4 s.thunks refl
      ∙ (other (codes "function") (codes "static") made.statics m2 m3 s.statics refl ∙ head (codes "function") refl refl))));
  points = other (codes "point") (codes "site") made.sites m6 m7 s.sites refl
      ∙ (here (codes "point") made.points m5 m6 s.points
      ∙ ap (list_or_old made.points) (other (codes "point") (codes "function") made.functions m4 m5 s.functions refl
      ∙ (other (codes "point") (codes "thunk") made.thunks m3 m4 s.thunks refl
      ∙ (other (codes "point") (codes "static") made.statics m2 m3 s.statics refl ∙ head (codes "point") refl refl))));
  sites = here (codes "site") made.sites m6 m7 s.sites
      ∙ ap (list_or_old made.sites) (other (codes "site") (codes "point") made.points m5 m6 s.points refl
      ∙ (other (codes "site") (codes "function") made.functions m4 m5 s.functions refl
      ∙ (other (codes "site") (codes "thunk") made.thunks m3 m4 s.thunks refl
      ∙ (other (codes "site") (codes "static") made.statics m2 m3 s.statics refl ∙ head (codes "site") refl refl))));
  rest = λ q apart.
      let (version, a) = or_parts _ _ apart in
      let (entry, b) = or_parts _ _ a in
      let (static, c) = or_parts _ _ b in
      let (thunk, d) = or_parts _ _ c in
      let (function, e) = or_parts _ _ d in
      let (point, f) = or_parts _ _ e in
      let (site, g) = or_parts _ _ f in
      behind q name made m0 m1 m2 m3 m4 m5 m6 m7 s static thunk function point site ∙ head q version entry;
}
  where
    head : (q : List ℕ) → bytes_eq q (codes "version") ≡ false → bytes_eq q (codes "entry") ≡ false → get_member q m2 ≡ get_member q m0
    head q version entry =
        beside q (codes "entry") (string name) m1 m2 s.entry entry
        ∙ beside q (codes "version") (integer (pos 1)) m0 m1 s.version version

pub text_kept : (place : List ℕ → Option ℕ) (points sites : List Data) (name : List ℕ) (old new : Members) (filled made : Lists)
    → AreFilledLists place old filled → AreArranged filled points sites made → IsAssembled name made old new
    → IsTextKept place points sites old new
text_kept place points sites name old new filled made are_filled arranged is = record {
  version = is.version;
  entry = λ d there. is.entry ∙ ap (λ o. Some (unwrap_or o (string name))) there;
  statics = list-kept place lists.Static (get_member (codes "static") old) filled.statics (get_member (codes "static") new)
      are_filled.statics
      (is.statics ∙ ap (λ values. list_or_old values (get_member (codes "static") old)) arranged.statics);
  thunk = list-kept place lists.Thunk (get_member (codes "thunk") old) filled.thunks (get_member (codes "thunk") new) are_filled.thunks
      (is.thunks ∙ ap (λ values. list_or_old values (get_member (codes "thunk") old)) arranged.thunks);
  function = list-mixed place lists.Function [] (get_member (codes "function") old) filled.functions made.functions
      (get_member (codes "function") new) are_filled.functions arranged.functions is.functions;
  point = list-mixed place lists.Point points (get_member (codes "point") old) filled.points made.points
      (get_member (codes "point") new) are_filled.points arranged.points is.points;
  site = list-mixed place lists.Site sites (get_member (codes "site") old) filled.sites made.sites
      (get_member (codes "site") new) are_filled.sites arranged.sites is.sites;
  rest = is.rest;
}
