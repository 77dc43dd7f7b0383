-- Bytes as words.
use Rattle.std.proofs.Common.{◌≡◌, ℕ, List, Bool, true, false, Some, None, refl}
use Rattle.std.specs.Str.{IsUtf8, is_utf8}
use Rattle.std.proofs.lemmas.Str.{IsUtf8-from_is_utf8, is_utf8-from_IsUtf8}
use Rattle.se_words.specs.Word.{text_in}

pub text-of : (bytes : List ℕ) → IsUtf8 bytes → text_in bytes ≡ Some bytes
text-of bytes utf8 = rw (is_utf8-from_IsUtf8 bytes utf8) refl

no-text : (bytes : List ℕ) (b : Bool) → is_utf8 bytes ≡ b → (IsUtf8 bytes → ⊥) → text_in bytes ≡ None
no-text bytes true is other = absurd (other (IsUtf8-from_is_utf8 bytes is))
no-text bytes false is other = rw is refl

pub text-none : (bytes : List ℕ) → (IsUtf8 bytes → ⊥) → text_in bytes ≡ None
text-none bytes other = no-text bytes _ refl other
