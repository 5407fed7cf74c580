-- Which files an answer changes.
use Rattle.std.proofs.Common.{◌≡◌, ◌≢◌, ◌⊎◌, ℕ, List, Option, Some, None, option_map, Bool, true, false, bytes_eq, inl, inr, refl, ◌∙◌}
use Rattle.std.proofs.lemmas.Cmp.{nat_list_cmp_total}
use Rattle.std.proofs.lemmas.Map.Text.{is_eq-slice_cmp}
use Rattle.std.proofs.lemmas.Slice.Eq.{bytes_eq-Decides}
use Rattle.std.specs.FinMap.{get, insert, get-insert}
use Rattle.ebc_outside.specs.Files.{Files, SameOtherFiles}
use Rattle.cli_base.specs.Outputs.{SameBut}

-- a name that is another is tested so
tested-apart : (one two : List ℕ) (b : Bool) → bytes_eq one two ≡ b → one ≢ two → b ≡ false
tested-apart one two true e apart = absurd (apart ((bytes_eq-Decides one two).0 e))
tested-apart one two false e apart = refl

-- what stands under another name stays as a file is put
other-kept : (files : Files) (name bytes other : List ℕ) → other ≢ name → get (insert files name bytes) other ≡ get files other
other-kept files name bytes other apart = get-insert nat_list_cmp_total files name bytes other
    ∙ rw (is_eq-slice_cmp other name, tested-apart other name (bytes_eq other name) refl apart) refl

-- a file that is put under a name changes no other
pub written-others : (old now : Option Files) (name bytes : List ℕ) → now ≡ option_map (λ files. insert files name bytes) old
    → SameOtherFiles name old now
written-others None now name bytes put = rw put tt
written-others (Some files) now name bytes put = rw put (λ other apart. other-kept files name bytes other apart)

-- where no file changes, none but one does
same-but : (name : Option (List ℕ)) (old now : Option Files) → now ≡ old → SameBut name old now
same-but None old now same = same
same-but (Some name) None now same = rw same tt
same-but (Some name) (Some files) now same = rw same (λ other apart. refl)

-- an answer that writes nothing changes none
but-none : (name wanted : Option (List ℕ)) (old mid now : Option Files) → name ≡ None → mid ≡ old → SameBut name mid now
    → SameBut wanted old now
but-none None wanted old mid now none led same = same-but wanted old now (same ∙ led)
but-none (Some name) wanted old mid now none led same = absurd cc

-- an answer that writes nothing, or the file that the words name, changes no other than that
pub but-output : (name wanted : Option (List ℕ)) (old mid now : Option Files) → (name ≡ None) ⊎ (name ≡ wanted) → mid ≡ old
    → SameBut name mid now → SameBut wanted old now
but-output name wanted old mid now (inl none) led same = but-none name wanted old mid now none led same
but-output name wanted old mid now (inr is) led same = rw (is, led) at same

-- where the words name no output an answer writes nothing
pub writes-none : (name wanted : Option (List ℕ)) → (name ≡ None) ⊎ (name ≡ wanted) → wanted ≡ None → name ≡ None
writes-none name wanted (inl none) is = none
writes-none name wanted (inr same) is = same ∙ is
