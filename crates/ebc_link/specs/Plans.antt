-- For proofs: the conditions on a link plan. docs/LINKING.md, "Plans".
use Rattle.std.specs.Prelude.{◌≡◌, ◌≢◌, ℕ, ◌%◌, ◌^◌, ◌<◌, ◌≤◌, List, [], length, true, All, AllPairs}
use Rattle.ebc_base.specs.Names.{is_name}
use Rattle.ebc_link.specs.declared.plan.LinkPlan.{LinkPlan}

-- A plan names 1 to 256 objects, each by a text of its own that isn't empty, and a symbol as the entry. It is for an
-- application, a boot service driver or a runtime driver (PE/COFF specification, "Windows Subsystem"), and its base is a
-- multiple of 64 KiB, as ImageBase has to be ("Optional Header Windows-Specific Fields"), below 2^32.
pub record IsPlan (p : LinkPlan) : Type 0 where
  pub some : 1 ≤ length p.objects
  pub few : length p.objects ≤ 256
  pub names : All (λ (n : List ℕ). n ≢ []) p.objects
  pub apart : AllPairs (λ (n m : List ℕ). n ≢ m) p.objects
  pub entry : is_name p.entry ≡ true
  pub subsystem : (10 ≤ p.subsystem) × (p.subsystem ≤ 12)
  pub base : p.base % 65536 ≡ 0
  pub small : p.base < 2 ^ 32
