-- For proofs: a table with a value put at a key, and one that has all that another has.
use Rattle.std.specs.Prelude.{◌≡◌, ◌⊎◌, List, [], ◌∷◌, ℕ, ℤ, pos, ◌^◌, Option, Some, None, IfSome, nat_lt, if◌then◌else◌}
use Rattle.std.specs.Ordering.{nat_cmp, match_ordering}
use Rattle.std.specs.Cmp.Lexicographic.{slice_cmp}
use Rattle.std.specs.Option.{option_and_then}
use Rattle.note_types.specs.declared.notes.Pair.{Pair}
use Rattle.toml.specs.Data.{Data, Members, no_members, member, no_items, item, array, integer, get_member, as_str, as_integer}

-- the text at a key
abbrev pub text_at_key : List ℕ → Members → Option (List ℕ)
text_at_key key ms = option_and_then as_str (get_member key ms)

-- a number that is no less than 0
abbrev pub natural_of : ℤ → Option ℕ
natural_of (pos n) = Some n
natural_of z = None

-- the number at a key, where one is there that is no less than 0
abbrev pub number_at_key : List ℕ → Members → Option ℕ
number_at_key key ms = option_and_then natural_of (option_and_then as_integer (get_member key ms))

-- a number as a value: the greatest one for those past it
abbrev pub number_value : ℕ → Data
number_value n = integer (pos (if nat_lt n (2 ^ 63) then n else 0x7fffffffffffffff))

-- a pair as a value
abbrev pub pair_value : Pair → Data
pair_value p = array (item (number_value p.n) (item (number_value p.c) no_items))

-- the members, with a value at a key
unfoldable pub put_member : List ℕ → Data → Members → Members
put_member k d no_members = member k d no_members
put_member k d (member l e ms) =
    match_ordering (slice_cmp nat_cmp k l) (member k d (member l e ms)) (member l d ms) (member l e (put_member k d ms))

-- the same, where nothing stands at the key
abbrev pub put_where : Option Data → List ℕ → Data → Members → Members
put_where None k d ms = put_member k d ms
put_where (Some e) k d ms = ms

abbrev pub put_missing_member : List ℕ → Data → Members → Members
put_missing_member k d ms = put_where (get_member k ms) k d ms

-- a value may be put at a key, by the keys that a table may leave out, each with the one value that stands for it, where there is one
unfoldable pub MayBePut : List (List ℕ × Option Data) → List ℕ → Data → Type 0
MayBePut [] key d = ⊥
MayBePut (p ∷ more) key d = ((key ≡ p.0) × IfSome p.1 (λ e. d ≡ e)) ⊎ MayBePut more key d

-- A table with values at keys that another leaves out; what stands in that one stands there too.
pub record IsExtended (puts : List (List ℕ × Option Data)) (old new : Members) : Type 0 where
  pub kept : (key : List ℕ) (d : Data) → get_member key old ≡ Some d → get_member key new ≡ Some d
  pub put : (key : List ℕ) (d : Data) → get_member key old ≡ None → get_member key new ≡ Some d → MayBePut puts key d

-- nothing stands at a key where nothing stood
abbrev pub StaysOut : List ℕ → Members → Members → Type 0
StaysOut key old new = get_member key old ≡ None → get_member key new ≡ None
