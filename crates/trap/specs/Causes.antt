-- The exception codes of mcause (Volume II, "Machine Cause Register", table of codes), and what a cause carries: an illegal
-- instruction its word, any other nothing.
use Rattle.std.specs.Prelude.{[], ◌∷◌, ℕ}
use Rattle.answers.specs.Answer.{Answer}
use Rattle.trap.specs.declared.TrapCause.{TrapCause}
use Rattle.trap.specs.declared.TrapCause.TheVariants.{InstructionAddressMisaligned, IllegalInstruction, Breakpoint, LoadAddressMisaligned, StoreAddressMisaligned, EcallFromUMode, EcallFromSMode, EcallFromMMode}

abbrev code : ℕ → Answer ℕ
code n = record { number = n; values = [] }

abbrev pub cause : TrapCause → Answer ℕ
cause InstructionAddressMisaligned = code 0
cause (IllegalInstruction word) = record { number = 2; values = word ∷ [] }
cause Breakpoint = code 3
cause LoadAddressMisaligned = code 4
cause StoreAddressMisaligned = code 6
cause EcallFromUMode = code 8
cause EcallFromSMode = code 9
cause EcallFromMMode = code 11
