-- For proofs: what is shown on standard error: lines without other control characters. docs/COMMANDS.md, "Standard error".
use Rattle.std.specs.Prelude.{◌≡◌, ℕ, ◌||◌, ◌&&◌, ◌==◌, List, Bool, true, not, nat_lt, if◌then◌else◌}
use Rattle.std.specs.Char.{encode_utf8}
use Rattle.std.specs.List.{flat_map, list_all}
use Rattle.std.specs.Str.{chars, encode_utf8_all}
use Rattle.note_texts.specs.KeyTexts.{escape_of}

-- a control: below U+0020, or U+007F to U+009F
abbrev pub is_control : ℕ → Bool
is_control c = nat_lt c 32 || (nat_lt 126 c && nat_lt c 160)

-- a character as it is shown: a control as `\u` and four hexadecimal digits
unfoldable pub shown_char : ℕ → List ℕ
shown_char c = if is_control c then escape_of c else encode_utf8 c

-- a text as it is shown
abbrev pub shown_chars : List ℕ → List ℕ
shown_chars text = flat_map shown_char (chars text)

-- a character that lines have: a line feed, or one that is no control
abbrev pub is_lined : ℕ → Bool
is_lined c = c == 10 || not (is_control c)

-- lines without other controls: the text of such characters
pub record IsShown (text : List ℕ) : Type 0 where
  pub characters : List ℕ
  pub spelled : text ≡ encode_utf8_all characters
  pub lined : list_all is_lined characters ≡ true
