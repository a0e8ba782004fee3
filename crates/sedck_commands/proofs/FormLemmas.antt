-- What the byte of a verb is, by what the verb takes.
use Rattle.sedck_commands.proofs.Common.{◌≡◌, ℕ, one_of, true, refl, is_in, verb_bytes, text_byte, file_byte, IsForm}
use Rattle.sedck_commands.specs.declared.forms.Form.{Form}
use Rattle.sedck_commands.specs.declared.forms.Form.TheVariants as form
use Rattle.sedck_commands.specs.declared.forms.TextVerb.{TextVerb}
use Rattle.sedck_commands.specs.declared.forms.TextVerb.TheVariants.{Append}
use Rattle.sedck_commands.specs.declared.names.Access.{Access}
use Rattle.sedck_commands.specs.declared.names.Access.TheVariants.{Read, Write}
use Rattle.sedck_commands.proofs.VerbBytes.{simple_byte}

pub text_listed : {b : ℕ} (verb : TextVerb) → b ≡ text_byte verb → one_of "aci" b ≡ true
text_listed Append e = rw e refl
text_listed _ e = rw e refl

pub file_listed : {b : ℕ} (access : Access) → b ≡ file_byte access → one_of "rw" b ≡ true
file_listed Read e = rw e refl
file_listed Write e = rw e refl

-- a command may begin with it
pub form_known : (b : ℕ) (taken : Form) → IsForm b taken → is_in b verb_bytes ≡ true
form_known b (form.Nothing verb) x = (simple_byte x).known
form_known b (form.Text Append) e = rw e refl
form_known b (form.File Read) e = rw e refl
form_known b (form.Jump true) e = rw e refl
form_known b _ e = rw e refl
