-- For proofs: the path that a key has in a text, by the one that it has once lists are put in order. docs/LABELS.md, "What is answered".
use Rattle.std.specs.Prelude.{◌≡◌, ℕ, List, [], ◌++◌, Option, Some, None, codes, bytes_eq, slice_get, option_map, option_and_then}
use Rattle.std.specs.Prelude.{if◌then◌else◌}
use Rattle.std.specs.Fmt.{decimal}
use Rattle.std.specs.List.{AllZip}
use Rattle.std.specs.Option.{unwrap_or}
use Rattle.note_draft.specs.declared.finding.TableList.{TableList}
use Rattle.note_draft.specs.declared.finding.TableList.TheVariants as lists
use Rattle.note_texts.specs.Numbers.{number_in}
use Rattle.note_texts.specs.Splits.{parts_at}
use Rattle.toml.specs.Data.{Data, Members, array, get_member}
use Rattle.note_filling.specs.Kept.{AreKept, list_of}

-- the path of an item of a list by its number, with more behind it
abbrev pub path_in_item : List ℕ → List ℕ → ℕ → List ℕ
path_in_item list rest number = list ++ (codes "[" ++ (decimal number ++ (codes "]" ++ rest)))

-- a path whose number stands before `]`, by the number that the item there had; none where the order has no such number
abbrev pub by_number : List ℕ → List ℕ → List ℕ × Option (List ℕ) → Option (List ℕ)
by_number list order parts = option_and_then (λ number. option_map (path_in_item list (unwrap_or parts.1 [])) (slice_get order number))
    (number_in 0 0xffffffff parts.0)

abbrev pub behind_list : List ℕ → List ℕ → Option (List ℕ) → Option (List ℕ)
behind_list list order None = None
behind_list list order (Some rest) = by_number list order (parts_at 93 rest)

-- the path of an item of a list, by the number that it had; none where it is none of the list's
unfoldable pub renumbered : List ℕ → List ℕ → List ℕ → Option (List ℕ)
renumbered list order path =
    if bytes_eq (parts_at 91 path).0 list then behind_list list order (parts_at 91 path).1 else None

-- the path that a key had before functions, points and sites were put in order, which had these numbers
unfoldable pub original_path : List ℕ → List ℕ → List ℕ → List ℕ → List ℕ
original_path functions points sites path =
    unwrap_or (renumbered (codes "function") functions path)
    (unwrap_or (renumbered (codes "point") points path)
    (unwrap_or (renumbered (codes "site") sites path) path))

-- ---- what the numbers are

-- each item of a list is that of its number among others
abbrev pub IsOrder : List Data → List ℕ → List Data → Type 0
IsOrder items order new = AllZip (λ number d. slice_get items number ≡ Some d) order new

-- the items of the list that stands somewhere, none where no list is there
abbrev pub items_in : Option Data → List Data
items_in (Some (array ds)) = list_of ds
items_in d = []

-- Numbers are those that the items of a list had: the text's own ones, kept, and behind them more.
pub record IsOrderOf (place : List ℕ → Option ℕ) (list : TableList) (old more : List Data) (order : List ℕ) (new : List Data) : Type 0 where
  pub kept : List Data
  pub are_kept : AreKept place list old kept
  pub stood : IsOrder (kept ++ more) order new

-- Functions, points and sites of a filled text had these numbers in the text, and these points and sites stood behind its own.
pub record AreOrders (place : List ℕ → Option ℕ) (more_points more_sites : List Data) (function_order point_order site_order : List ℕ)
    (old new : Members) : Type 0 where
  pub functions : IsOrderOf place lists.Function (items_in (get_member (codes "function") old)) [] function_order
      (items_in (get_member (codes "function") new))
  pub points : IsOrderOf place lists.Point (items_in (get_member (codes "point") old)) more_points point_order
      (items_in (get_member (codes "point") new))
  pub sites : IsOrderOf place lists.Site (items_in (get_member (codes "site") old)) more_sites site_order
      (items_in (get_member (codes "site") new))
