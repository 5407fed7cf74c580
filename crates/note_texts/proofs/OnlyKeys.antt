-- The keys of a table, one after the other.
use Rattle.std.proofs.Common.{◌≡◌, ℕ, List, [], ◌∷◌, ◌++◌, map, true, false, String, Global, Bor, Result, Ok, Err, string_bytes, refl, sym}
use Rattle.std.proofs.Common.{◌∙◌}
use Rattle.std.specs.Prelude.{bytes_eq}
use Rattle.std.specs.List.{list_any}
use Rattle.toml.specs.declared.value.Value.{Value}
use Rattle.toml.specs.View.{members_view}
use Rattle.note_types.specs.declared.fault.TomlFault.{TomlFault}
use Rattle.note_types.specs.declared.fault.TomlFault.TheVariants.{Kind}
use Rattle.note_texts.specs.KeyTexts.{key_text}
use Rattle.note_texts.specs.Keys.{only_keys}
use Rattle.ebc_base.specs.Tables.{is_named}

pub known-map : (key : List ℕ) (known : List (Bor (List ℕ))) → list_any (λ k. bytes_eq key k.now) known ≡ is_named key
    (map (λ k. k.now) known)
known-map key [] = refl
known-map key (k ∷ ks) = rw (known-map key ks)

pub keys_go_on : (prefix : List ℕ) (known : List (List ℕ)) (k : String Global) (v : Value) (s es : List (String Global × Value))
    (total : Result (Unit {0}) TomlFault) → s ≡ (k, v) ∷ es → is_named (string_bytes k) known ≡ true
    → only_keys prefix known (members_view s) ≡ total → only_keys prefix known (members_view es) ≡ total
unfolding only_keys
keys_go_on prefix known k v s es total first passes so_far =
    let one : only_keys prefix known (members_view s) ≡ only_keys prefix known (members_view es) = rw (first, passes) in
    sym one ∙ so_far

pub keys_stop : (prefix : List ℕ) (known : List (List ℕ)) (k : String Global) (v : Value) (s es : List (String Global × Value))
    (total : Result (Unit {0}) TomlFault) → s ≡ (k, v) ∷ es → is_named (string_bytes k) known ≡ false
    → only_keys prefix known (members_view s) ≡ total → total ≡ Err (Kind (prefix ++ key_text (string_bytes k)))
unfolding only_keys
keys_stop prefix known k v s es total first passes so_far =
    let one : only_keys prefix known (members_view s) ≡ Err (Kind (prefix ++ key_text (string_bytes k))) = rw (first, passes) in
    sym so_far ∙ one

pub keys_done : (prefix : List ℕ) (known : List (List ℕ)) (s : List (String Global × Value)) (total : Result (Unit {0}) TomlFault) → s ≡ []
    → only_keys prefix known (members_view s) ≡ total → total ≡ Ok tt
unfolding only_keys
keys_done prefix known s total none so_far =
    let one : only_keys prefix known (members_view s) ≡ Ok tt = rw none in
    sym so_far ∙ one
