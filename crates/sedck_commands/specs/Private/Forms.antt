-- What the byte of a verb says of the rest of its command.
use Rattle.std.specs.Prelude.{◌≡◌, ℕ, ◌<◌, Bool, if◌then◌else◌, ◌∷◌}
use Rattle.sedck_text.specs.Bytes.{ascii}
use Rattle.sedck_text.specs.Cursors.{unread}
use Rattle.sedck_text.specs.declared.cursor.Cursor.{Cursor}
use Rattle.sedck_commands.specs.Items.{Simple}
use Rattle.sedck_commands.specs.View.{verb_of}
use Rattle.sedck_commands.specs.declared.forms.Form.{Form}
use Rattle.sedck_commands.specs.declared.forms.Form.TheVariants as form
use Rattle.sedck_commands.specs.declared.forms.TextVerb.{TextVerb}
use Rattle.sedck_commands.specs.declared.forms.TextVerb.TheVariants.{Append, Change, Insert}
use Rattle.sedck_commands.specs.declared.names.Access.{Access}
use Rattle.sedck_commands.specs.declared.names.Access.TheVariants.{Read, Write}

abbrev pub text_byte : TextVerb → ℕ
text_byte Append = ascii "a"
text_byte Change = ascii "c"
text_byte Insert = ascii "i"

abbrev pub file_byte : Access → ℕ
file_byte Read = ascii "r"
file_byte Write = ascii "w"

abbrev pub jump_byte : (tests : Bool) → ℕ
jump_byte tests = if tests then ascii "t" else ascii "b"

-- the verb of the byte takes this
abbrev pub IsForm : ℕ → Form → Type 0
IsForm b (form.Nothing verb) = Simple b (verb_of verb)
IsForm b (form.Text verb) = b ≡ text_byte verb
IsForm b (form.File access) = b ≡ file_byte access
IsForm b form.Label = b ≡ ascii ":"
IsForm b (form.Jump tests) = b ≡ jump_byte tests
IsForm b form.Block = b ≡ ascii "{"
IsForm b form.Substitution = b ≡ ascii "s"
IsForm b form.Transliteration = b ≡ ascii "y"

-- a verb that takes this begins at the first cursor, and the second one is right after its byte
pub record IsVerbAt (begins : Cursor) (taken : Form) (behind : Cursor) : Type 0 where
  pub byte : ℕ
  pub cut : unread begins ≡ byte ∷ unread behind
  pub is : IsForm byte taken
  pub whole : behind.whole ≡ begins.whole
  pub after : 0 < behind.at
