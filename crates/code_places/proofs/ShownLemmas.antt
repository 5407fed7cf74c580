-- What is printed of an image.
use Rattle.std.proofs.Common.{◌≡◌, ℕ, ◌≤◌, List, [], ◌∷◌, length, map, Option, Some, None, Ok, Err, Bool, true, false, refl}
use Rattle.std.proofs.Common.{ap, ◌∙◌, arith}
use Rattle.std.specs.Prelude.{IfSome, nat_lt, if◌then◌else◌}
use Rattle.std.specs.List.{filter, flat_map}
use Rattle.std.proofs.lemmas.Bool.Decides.{nat_tests}
use Rattle.std.specs.FinMap.{get}
use Rattle.ebc_outside.specs.Files.{Files}
use Rattle.pe_image.specs.declared.image.Image.{Image}
use Rattle.ebc_disasm.specs.CodeItems.{items_of, line_of, says_bytes}
use Rattle.ebc_disasm.specs.Listings.{has_code, section_lines}
use Rattle.ebc_disasm.proofs.CodeLines.{code_lines}
use Rattle.cli_base.specs.declared.outcome.Outcome.{Outcome}
use Rattle.cli_base.specs.declared.outcome.Outcome.TheVariants.{Done}
use Rattle.cli_base.specs.declared.reply.Reply.{Reply}
use Rattle.cli_base.specs.Inputs.{bad_image_reply, image_limit, image_meaning, or_reply}
use Rattle.cli_base.specs.Outcomes.{IsAnswer}
use Rattle.cli_base.specs.Outputs.{printed, text_of}
use Rattle.cli_base.specs.Readings.{FileReading, done, file, go_on, large_reply, measured}
use Rattle.code_places.specs.Answers.{Decides, ShowsImage, answer_of, answer_to, answer_to_words, places_reply, reply_of_reading}
use Rattle.code_places.specs.Places.{places_text}

-- the lines of an image's places are those of its listing
pub listed : (image : Image) → map line_of (items_of image) ≡ filter says_bytes
    (flat_map (section_lines image) (filter has_code image.sections))
unfolding items_of
listed image = code_lines image image.sections

within : (b : Bool) (reply : Reply) (bytes : List ℕ) → b ≡ false → (if b then Err reply else Ok bytes) ≡ Ok bytes
within true reply bytes is = absurd cc
within false reply bytes is = refl

found : (name bytes : List ℕ) (x : Option (List ℕ)) → x ≡ Some bytes → length bytes ≤ image_limit → measured 0 name image_limit x ≡ Ok bytes
found name bytes x there fits =
    let small : nat_lt image_limit (length bytes) ≡ false = grind (arith, nat_tests) in
    ap (measured 0 name image_limit) there ∙ within (nat_lt image_limit (length bytes)) (large_reply 0 name) bytes small

-- the answer to an image is its places
shown : (words : List (List ℕ)) (files : Files) (image : Image) → ShowsImage words files image →
    reply_of_reading (answer_to_words words files).value ≡ places_reply image
unfolding answer_to_words answer_of file
shown words files image s =
    let last : Image → FileReading Reply = λ i. done (places_reply i) in
    let next : List ℕ → FileReading Reply = λ bytes. go_on [] (image_meaning 0 s.name bytes) last in
    ap (λ o. reply_of_reading (answer_to o files).value) s.named
    ∙ (ap (λ v. reply_of_reading (go_on (s.name ∷ []) v next).value) (found s.name s.bytes (get files s.name) s.there s.fits)
    ∙ ap (λ r. reply_of_reading (go_on [] (or_reply (bad_image_reply 0 s.name) r) last).value) s.image_is)

pub shows :
    (files : Option Files) (words asked now : List (List ℕ)) (reply : Reply) (outcome : Outcome) (before after : Option (List ℕ)) →
    IfSome files (λ fs. Decides asked now (Ok reply) (answer_to_words words fs)) → (IsAnswer outcome → outcome ≡ reply.outcome) →
    (IsAnswer outcome → after ≡ printed (text_of reply.output) before) →
    IfSome files (λ fs. (image : Image) → ShowsImage words fs image → IsAnswer outcome →
    (outcome ≡ Done) × (after ≡ printed (places_text image) before))
shows None words asked now reply outcome before after decided same text = tt
shows (Some fs) words asked now reply outcome before after decided same text =
    λ image s answer.
    let is : reply ≡ places_reply image = decided.0 ∙ shown words fs image s in
    (same answer ∙ ap (λ (r : Reply). r.outcome) is, text answer ∙ ap (λ (r : Reply). printed (text_of r.output) before) is)
