-- The places to which paths lead, and what has them all.
use Rattle.std.proofs.Common.{◌≡◌, ℕ, zero, suc, ◌<◌, ◌≤◌, refl}
use Rattle.std.specs.Prelude.{true}
use Rattle.ebc_insn.specs.declared.Insn.{Insn}
use Rattle.note_types.specs.declared.notes.FnNote.{FnNote}
use Rattle.pe_image.specs.declared.image.Image.{Image}
use Rattle.rules_image.specs.Images.{IsDecoded}
use Rattle.rules_image.specs.Places.{IsPlaceOf}
use Rattle.image_warnings.specs.Uncut.{ComesFromSuch, ComesUncut, GoesOn, LeadsWithin, UncutAt, Way}

module _ (image : Image) (f : FnNote) (way : Way) where
  -- it is a place of the function's code
  pub uncut_first : (q : ℕ) → UncutAt image f way q → f.place ≤ q
  unfolding ComesUncut
  uncut_first q (zero, c) = c.leads.first
  uncut_first q (suc n, c) = c.leads.first

  pub uncut_within : (q : ℕ) → UncutAt image f way q → q < f.end
  unfolding ComesUncut
  uncut_within q (zero, c) = c.leads.within
  uncut_within q (suc n, c) = c.leads.within

  -- where an instruction leads behind which a path begins
  pub uncut_begun : (p next : ℕ) (i : Insn) → IsPlaceOf image f p → IsDecoded image f p i next → way.begins p i ≡ true → (q : ℕ)
      → LeadsWithin image f next i q → UncutAt image f way q
  unfolding ComesUncut
  uncut_begun p next i reached d begins q leads =
      (0, record { last = p; insn = i; next = next; decode = d; is_such = (reached, begins); leads = leads })

  -- where one leads over which it goes on
  pub uncut_kept : (p next : ℕ) (i : Insn) → UncutAt image f way p → IsDecoded image f p i next → way.goes_on i ≡ true → (q : ℕ)
      → LeadsWithin image f next i q → UncutAt image f way q
  unfolding ComesUncut
  uncut_kept p next i (n, comes) d keeps q leads =
      (suc n, record { last = p; insn = i; next = next; decode = d; is_such = (comes, keeps); leads = leads })

  -- What has the places at which paths begin, and with a place those to which the instruction there leads, has all.
  pub uncut_closed : (Has : ℕ → Type 0) → ((q : ℕ) → ComesUncut image f way 0 q → Has q)
      → ((p q : ℕ) → Has p → ComesFromSuch image f (GoesOn way (λ x. x ≡ p)) q → Has q) → (n q : ℕ) → ComesUncut image f way n q → Has q
  unfolding ComesUncut
  uncut_closed Has begins goes zero q c = begins q c
  uncut_closed Has begins goes (suc n) q c =
      goes c.last q (uncut_closed Has begins goes n c.last c.is_such.0)
      (record {
        last = c.last;
        insn = c.insn;
        next = c.next;
        decode = c.decode;
        is_such = (refl, c.is_such.1);
        leads = c.leads;
      })
