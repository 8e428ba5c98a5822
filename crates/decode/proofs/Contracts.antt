-- The contract of each public function takes anything and allows one outcome. Assumes nothing.
use mathlib.Core.Path.{refl, sym, ◌∙◌}
use Rattle.answers.specs.Strong.{Strong}
use Rattle.answers.proofs.Determined.{readings}
use Rattle.answers.proofs.Strong.{equation}
use Rattle.decode.proofs as fn

Instruction-opcode : Strong _ fn.Instruction.opcode.Kinds.ps fn.Instruction.opcode.Kinds.r fn.Instruction.opcode.Reads.Pre fn.Instruction.opcode.Reads.Post
Instruction-opcode = equation (λ κs a e f. refl)

Instruction-rd : Strong _ fn.Instruction.rd.Kinds.ps fn.Instruction.rd.Kinds.r fn.Instruction.rd.Reads.Pre fn.Instruction.rd.Reads.Post
Instruction-rd = equation (λ κs a e f. refl)

Instruction-rs1 : Strong _ fn.Instruction.rs1.Kinds.ps fn.Instruction.rs1.Kinds.r fn.Instruction.rs1.Reads.Pre fn.Instruction.rs1.Reads.Post
Instruction-rs1 = equation (λ κs a e f. refl)

Instruction-rs2 : Strong _ fn.Instruction.rs2.Kinds.ps fn.Instruction.rs2.Kinds.r fn.Instruction.rs2.Reads.Pre fn.Instruction.rs2.Reads.Post
Instruction-rs2 = equation (λ κs a e f. refl)

Instruction-funct3 : Strong _ fn.Instruction.funct3.Kinds.ps fn.Instruction.funct3.Kinds.r fn.Instruction.funct3.Reads.Pre fn.Instruction.funct3.Reads.Post
Instruction-funct3 = equation (λ κs a e f. refl)

Instruction-funct7 : Strong _ fn.Instruction.funct7.Kinds.ps fn.Instruction.funct7.Kinds.r fn.Instruction.funct7.Reads.Pre fn.Instruction.funct7.Reads.Post
Instruction-funct7 = equation (λ κs a e f. refl)

Instruction-imm_i : Strong _ fn.Instruction.imm_i.Kinds.ps fn.Instruction.imm_i.Kinds.r fn.Instruction.imm_i.Reads.Pre fn.Instruction.imm_i.Reads.Post
Instruction-imm_i = equation (λ κs a e f. refl)

Instruction-imm_s : Strong _ fn.Instruction.imm_s.Kinds.ps fn.Instruction.imm_s.Kinds.r fn.Instruction.imm_s.Reads.Pre fn.Instruction.imm_s.Reads.Post
Instruction-imm_s = equation (λ κs a e f. refl)

Instruction-imm_b : Strong _ fn.Instruction.imm_b.Kinds.ps fn.Instruction.imm_b.Kinds.r fn.Instruction.imm_b.Reads.Pre fn.Instruction.imm_b.Reads.Post
Instruction-imm_b = equation (λ κs a e f. refl)

Instruction-imm_u : Strong _ fn.Instruction.imm_u.Kinds.ps fn.Instruction.imm_u.Kinds.r fn.Instruction.imm_u.Reads.Pre fn.Instruction.imm_u.Reads.Post
Instruction-imm_u = equation (λ κs a e f. refl)

Instruction-imm_j : Strong _ fn.Instruction.imm_j.Kinds.ps fn.Instruction.imm_j.Kinds.r fn.Instruction.imm_j.Reads.Pre fn.Instruction.imm_j.Reads.Post
Instruction-imm_j = equation (λ κs a e f. refl)

Instruction-csr_addr : Strong _ fn.Instruction.csr_addr.Kinds.ps fn.Instruction.csr_addr.Kinds.r fn.Instruction.csr_addr.Reads.Pre fn.Instruction.csr_addr.Reads.Post
Instruction-csr_addr = equation (λ κs a e f. refl)

Instruction-funct5 : Strong _ fn.Instruction.funct5.Kinds.ps fn.Instruction.funct5.Kinds.r fn.Instruction.funct5.Reads.Pre fn.Instruction.funct5.Reads.Post
Instruction-funct5 = equation (λ κs a e f. refl)

Instruction-aq : Strong _ fn.Instruction.aq.Kinds.ps fn.Instruction.aq.Kinds.r fn.Instruction.aq.Reads.Pre fn.Instruction.aq.Reads.Post
Instruction-aq = equation (λ κs a e f. refl)

Instruction-rl : Strong _ fn.Instruction.rl.Kinds.ps fn.Instruction.rl.Kinds.r fn.Instruction.rl.Reads.Pre fn.Instruction.rl.Reads.Post
Instruction-rl = equation (λ κs a e f. refl)

CompressedInstruction-quadrant : Strong _ fn.CompressedInstruction.quadrant.Kinds.ps fn.CompressedInstruction.quadrant.Kinds.r fn.CompressedInstruction.quadrant.Reads.Pre fn.CompressedInstruction.quadrant.Reads.Post
CompressedInstruction-quadrant = equation (λ κs a e f. refl)

CompressedInstruction-funct3 : Strong _ fn.CompressedInstruction.funct3.Kinds.ps fn.CompressedInstruction.funct3.Kinds.r fn.CompressedInstruction.funct3.Reads.Pre fn.CompressedInstruction.funct3.Reads.Post
CompressedInstruction-funct3 = equation (λ κs a e f. refl)

CompressedInstruction-rs2_prime : Strong _ fn.CompressedInstruction.rs2_prime.Kinds.ps fn.CompressedInstruction.rs2_prime.Kinds.r fn.CompressedInstruction.rs2_prime.Reads.Pre fn.CompressedInstruction.rs2_prime.Reads.Post
CompressedInstruction-rs2_prime = equation (λ κs a e f. refl)

CompressedInstruction-rs1_prime : Strong _ fn.CompressedInstruction.rs1_prime.Kinds.ps fn.CompressedInstruction.rs1_prime.Kinds.r fn.CompressedInstruction.rs1_prime.Reads.Pre fn.CompressedInstruction.rs1_prime.Reads.Post
CompressedInstruction-rs1_prime = equation (λ κs a e f. refl)

CompressedInstruction-rd : Strong _ fn.CompressedInstruction.rd.Kinds.ps fn.CompressedInstruction.rd.Kinds.r fn.CompressedInstruction.rd.Reads.Pre fn.CompressedInstruction.rd.Reads.Post
CompressedInstruction-rd = equation (λ κs a e f. refl)

CompressedInstruction-rs2 : Strong _ fn.CompressedInstruction.rs2.Kinds.ps fn.CompressedInstruction.rs2.Kinds.r fn.CompressedInstruction.rs2.Reads.Pre fn.CompressedInstruction.rs2.Reads.Post
CompressedInstruction-rs2 = equation (λ κs a e f. refl)

sign_extend : Strong _ fn.sign_extend.Kinds.ps fn.sign_extend.Kinds.r fn.sign_extend.Reads.Pre fn.sign_extend.Reads.Post
sign_extend = record { total = λ κs a. tt; determined = λ κs a x y e f p q. (readings x y (p ∙ sym q), refl) }
