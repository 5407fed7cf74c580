-- The object of a number, with its home and the places of its symbols.
use Rattle.ebc_link.proofs.Common.{◌≡◌, ℕ, ◌<◌, List, length, get_or, not, Option, sym, ap, ◌∙◌, find, option_map}
use Rattle.ebc_link.proofs.Common.{get_or_default, length-map, Fixup, Object, Home, Resolved, Definition, places_of, symbol_place}
use Rattle.ebc_link.proofs.Common.{far_in, is_near, place_of, IsResolved, defined_in, laid_of}
use Rattle.ebc_link.specs.declared.piece.Piece.{Piece}
use Rattle.ebc_link.proofs.LaidLaws.{IsAt, laid_at, made_at}

pub is_at : (r : Resolved) (i : ℕ) (d : Object) (h : Home) → IsResolved r → i < length r.objects.now → h ≡ get_or r.homes.items i h
    → IsAt r.objects.now r.homes.items i (get_or r.objects.now i d) h
is_at r i d h resolved within stands =
    record {
      within = within;
      homes = resolved.homes;
      object = get_or_default r.objects.now i d (get_or r.objects.now i d) within;
      home = stands;
    }

pub places_at : (r : Resolved) (i : ℕ) (d : Object) (h : Home) (ps qs : List ℕ) → IsResolved r → i < length r.objects.now
    → h ≡ get_or r.homes.items i h → ps ≡ qs → qs ≡ get_or r.places.items i qs
    → ps ≡ places_of (defined_in r) (laid_at (get_or r.objects.now i d) h)
places_at r i d h ps qs resolved within stands same is =
    same
    ∙ made_at (places_of (defined_in r)) r.objects.now r.homes.items r.places.items i (get_or r.objects.now i d) h qs
    (is_at r i d h resolved within stands) resolved.places is

pub length-places : (ds : List Definition) (o : Object) (h : Home) (ps : List ℕ) → ps ≡ places_of ds (laid_at o h)
    → length ps ≡ length o.symbols
unfolding places_of
length-places ds o h ps is = ap length is ∙ length-map o.symbols (symbol_place ds h)

-- the first fixup of an object that is too far, by the places of its symbols
pub far_so : (ds : List Definition) (p : Piece) (r : Option ℕ) → p.places.now ≡ places_of ds (laid_of p)
    → r ≡ option_map (place_of p.home) (find (λ (f : Fixup). not (is_near p.places.now p.home f)) p.object.now.fixups)
    → far_in ds (laid_of p) ≡ r
far_so ds p r places is =
    sym (is ∙ ap (λ ps. option_map (place_of p.home) (find (λ (f : Fixup). not (is_near ps p.home f)) p.object.now.fixups)) places)
