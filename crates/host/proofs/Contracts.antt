-- The contract of each public function takes anything and allows one outcome. Assumes nothing.
use mathlib.Core.Path.{refl, sym, ◌∙◌}
use Rattle.answers.specs.Strong.{Strong}
use Rattle.answers.proofs.Strong.{equation, both}
use Rattle.host.proofs as fn

arithmetic-rv_mul : Strong _ fn.arithmetic.rv_mul.Kinds.ps fn.arithmetic.rv_mul.Kinds.r fn.arithmetic.rv_mul.Reads.Pre fn.arithmetic.rv_mul.Reads.Post
arithmetic-rv_mul = equation (λ κs a e f. refl)

arithmetic-rv_mulh : Strong _ fn.arithmetic.rv_mulh.Kinds.ps fn.arithmetic.rv_mulh.Kinds.r fn.arithmetic.rv_mulh.Reads.Pre fn.arithmetic.rv_mulh.Reads.Post
arithmetic-rv_mulh = equation (λ κs a e f. refl)

arithmetic-rv_mulhu : Strong _ fn.arithmetic.rv_mulhu.Kinds.ps fn.arithmetic.rv_mulhu.Kinds.r fn.arithmetic.rv_mulhu.Reads.Pre fn.arithmetic.rv_mulhu.Reads.Post
arithmetic-rv_mulhu = equation (λ κs a e f. refl)

arithmetic-rv_mulhsu : Strong _ fn.arithmetic.rv_mulhsu.Kinds.ps fn.arithmetic.rv_mulhsu.Kinds.r fn.arithmetic.rv_mulhsu.Reads.Pre fn.arithmetic.rv_mulhsu.Reads.Post
arithmetic-rv_mulhsu = equation (λ κs a e f. refl)

arithmetic-rv_div : Strong _ fn.arithmetic.rv_div.Kinds.ps fn.arithmetic.rv_div.Kinds.r fn.arithmetic.rv_div.Reads.Pre fn.arithmetic.rv_div.Reads.Post
arithmetic-rv_div = equation (λ κs a e f. refl)

arithmetic-rv_divu : Strong _ fn.arithmetic.rv_divu.Kinds.ps fn.arithmetic.rv_divu.Kinds.r fn.arithmetic.rv_divu.Reads.Pre fn.arithmetic.rv_divu.Reads.Post
arithmetic-rv_divu = equation (λ κs a e f. refl)

arithmetic-rv_rem : Strong _ fn.arithmetic.rv_rem.Kinds.ps fn.arithmetic.rv_rem.Kinds.r fn.arithmetic.rv_rem.Reads.Pre fn.arithmetic.rv_rem.Reads.Post
arithmetic-rv_rem = equation (λ κs a e f. refl)

arithmetic-rv_remu : Strong _ fn.arithmetic.rv_remu.Kinds.ps fn.arithmetic.rv_remu.Kinds.r fn.arithmetic.rv_remu.Reads.Pre fn.arithmetic.rv_remu.Reads.Post
arithmetic-rv_remu = equation (λ κs a e f. refl)

arithmetic-rv_mulw : Strong _ fn.arithmetic.rv_mulw.Kinds.ps fn.arithmetic.rv_mulw.Kinds.r fn.arithmetic.rv_mulw.Reads.Pre fn.arithmetic.rv_mulw.Reads.Post
arithmetic-rv_mulw = equation (λ κs a e f. refl)

arithmetic-rv_divw : Strong _ fn.arithmetic.rv_divw.Kinds.ps fn.arithmetic.rv_divw.Kinds.r fn.arithmetic.rv_divw.Reads.Pre fn.arithmetic.rv_divw.Reads.Post
arithmetic-rv_divw = equation (λ κs a e f. refl)

arithmetic-rv_divuw : Strong _ fn.arithmetic.rv_divuw.Kinds.ps fn.arithmetic.rv_divuw.Kinds.r fn.arithmetic.rv_divuw.Reads.Pre fn.arithmetic.rv_divuw.Reads.Post
arithmetic-rv_divuw = equation (λ κs a e f. refl)

arithmetic-rv_remw : Strong _ fn.arithmetic.rv_remw.Kinds.ps fn.arithmetic.rv_remw.Kinds.r fn.arithmetic.rv_remw.Reads.Pre fn.arithmetic.rv_remw.Reads.Post
arithmetic-rv_remw = equation (λ κs a e f. refl)

arithmetic-rv_remuw : Strong _ fn.arithmetic.rv_remuw.Kinds.ps fn.arithmetic.rv_remuw.Kinds.r fn.arithmetic.rv_remuw.Reads.Pre fn.arithmetic.rv_remuw.Reads.Post
arithmetic-rv_remuw = equation (λ κs a e f. refl)

arithmetic-rv_amoswap_w : Strong _ fn.arithmetic.rv_amoswap_w.Kinds.ps fn.arithmetic.rv_amoswap_w.Kinds.r fn.arithmetic.rv_amoswap_w.Reads.Pre fn.arithmetic.rv_amoswap_w.Reads.Post
arithmetic-rv_amoswap_w = record { total = λ κs a. tt; determined = λ κs a x y e f p q. (refl, both refl (both refl (both (p ∙ sym q) refl))) }

arithmetic-rv_amoadd_w : Strong _ fn.arithmetic.rv_amoadd_w.Kinds.ps fn.arithmetic.rv_amoadd_w.Kinds.r fn.arithmetic.rv_amoadd_w.Reads.Pre fn.arithmetic.rv_amoadd_w.Reads.Post
arithmetic-rv_amoadd_w = record { total = λ κs a. tt; determined = λ κs a x y e f p q. (refl, both refl (both refl (both (p ∙ sym q) refl))) }

arithmetic-rv_amoxor_w : Strong _ fn.arithmetic.rv_amoxor_w.Kinds.ps fn.arithmetic.rv_amoxor_w.Kinds.r fn.arithmetic.rv_amoxor_w.Reads.Pre fn.arithmetic.rv_amoxor_w.Reads.Post
arithmetic-rv_amoxor_w = record { total = λ κs a. tt; determined = λ κs a x y e f p q. (refl, both refl (both refl (both (p ∙ sym q) refl))) }

arithmetic-rv_amoand_w : Strong _ fn.arithmetic.rv_amoand_w.Kinds.ps fn.arithmetic.rv_amoand_w.Kinds.r fn.arithmetic.rv_amoand_w.Reads.Pre fn.arithmetic.rv_amoand_w.Reads.Post
arithmetic-rv_amoand_w = record { total = λ κs a. tt; determined = λ κs a x y e f p q. (refl, both refl (both refl (both (p ∙ sym q) refl))) }

arithmetic-rv_amoor_w : Strong _ fn.arithmetic.rv_amoor_w.Kinds.ps fn.arithmetic.rv_amoor_w.Kinds.r fn.arithmetic.rv_amoor_w.Reads.Pre fn.arithmetic.rv_amoor_w.Reads.Post
arithmetic-rv_amoor_w = record { total = λ κs a. tt; determined = λ κs a x y e f p q. (refl, both refl (both refl (both (p ∙ sym q) refl))) }

arithmetic-rv_amomin_w : Strong _ fn.arithmetic.rv_amomin_w.Kinds.ps fn.arithmetic.rv_amomin_w.Kinds.r fn.arithmetic.rv_amomin_w.Reads.Pre fn.arithmetic.rv_amomin_w.Reads.Post
arithmetic-rv_amomin_w = record { total = λ κs a. tt; determined = λ κs a x y e f p q. (refl, both refl (both refl (both (p ∙ sym q) refl))) }

arithmetic-rv_amomax_w : Strong _ fn.arithmetic.rv_amomax_w.Kinds.ps fn.arithmetic.rv_amomax_w.Kinds.r fn.arithmetic.rv_amomax_w.Reads.Pre fn.arithmetic.rv_amomax_w.Reads.Post
arithmetic-rv_amomax_w = record { total = λ κs a. tt; determined = λ κs a x y e f p q. (refl, both refl (both refl (both (p ∙ sym q) refl))) }

arithmetic-rv_amominu_w : Strong _ fn.arithmetic.rv_amominu_w.Kinds.ps fn.arithmetic.rv_amominu_w.Kinds.r fn.arithmetic.rv_amominu_w.Reads.Pre fn.arithmetic.rv_amominu_w.Reads.Post
arithmetic-rv_amominu_w = record { total = λ κs a. tt; determined = λ κs a x y e f p q. (refl, both refl (both refl (both (p ∙ sym q) refl))) }

arithmetic-rv_amomaxu_w : Strong _ fn.arithmetic.rv_amomaxu_w.Kinds.ps fn.arithmetic.rv_amomaxu_w.Kinds.r fn.arithmetic.rv_amomaxu_w.Reads.Pre fn.arithmetic.rv_amomaxu_w.Reads.Post
arithmetic-rv_amomaxu_w = record { total = λ κs a. tt; determined = λ κs a x y e f p q. (refl, both refl (both refl (both (p ∙ sym q) refl))) }

arithmetic-rv_amoswap_d : Strong _ fn.arithmetic.rv_amoswap_d.Kinds.ps fn.arithmetic.rv_amoswap_d.Kinds.r fn.arithmetic.rv_amoswap_d.Reads.Pre fn.arithmetic.rv_amoswap_d.Reads.Post
arithmetic-rv_amoswap_d = record { total = λ κs a. tt; determined = λ κs a x y e f p q. (refl, both refl (both refl (both (p ∙ sym q) refl))) }

arithmetic-rv_amoadd_d : Strong _ fn.arithmetic.rv_amoadd_d.Kinds.ps fn.arithmetic.rv_amoadd_d.Kinds.r fn.arithmetic.rv_amoadd_d.Reads.Pre fn.arithmetic.rv_amoadd_d.Reads.Post
arithmetic-rv_amoadd_d = record { total = λ κs a. tt; determined = λ κs a x y e f p q. (refl, both refl (both refl (both (p ∙ sym q) refl))) }

arithmetic-rv_amoxor_d : Strong _ fn.arithmetic.rv_amoxor_d.Kinds.ps fn.arithmetic.rv_amoxor_d.Kinds.r fn.arithmetic.rv_amoxor_d.Reads.Pre fn.arithmetic.rv_amoxor_d.Reads.Post
arithmetic-rv_amoxor_d = record { total = λ κs a. tt; determined = λ κs a x y e f p q. (refl, both refl (both refl (both (p ∙ sym q) refl))) }

arithmetic-rv_amoand_d : Strong _ fn.arithmetic.rv_amoand_d.Kinds.ps fn.arithmetic.rv_amoand_d.Kinds.r fn.arithmetic.rv_amoand_d.Reads.Pre fn.arithmetic.rv_amoand_d.Reads.Post
arithmetic-rv_amoand_d = record { total = λ κs a. tt; determined = λ κs a x y e f p q. (refl, both refl (both refl (both (p ∙ sym q) refl))) }

arithmetic-rv_amoor_d : Strong _ fn.arithmetic.rv_amoor_d.Kinds.ps fn.arithmetic.rv_amoor_d.Kinds.r fn.arithmetic.rv_amoor_d.Reads.Pre fn.arithmetic.rv_amoor_d.Reads.Post
arithmetic-rv_amoor_d = record { total = λ κs a. tt; determined = λ κs a x y e f p q. (refl, both refl (both refl (both (p ∙ sym q) refl))) }

arithmetic-rv_amomin_d : Strong _ fn.arithmetic.rv_amomin_d.Kinds.ps fn.arithmetic.rv_amomin_d.Kinds.r fn.arithmetic.rv_amomin_d.Reads.Pre fn.arithmetic.rv_amomin_d.Reads.Post
arithmetic-rv_amomin_d = record { total = λ κs a. tt; determined = λ κs a x y e f p q. (refl, both refl (both refl (both (p ∙ sym q) refl))) }

arithmetic-rv_amomax_d : Strong _ fn.arithmetic.rv_amomax_d.Kinds.ps fn.arithmetic.rv_amomax_d.Kinds.r fn.arithmetic.rv_amomax_d.Reads.Pre fn.arithmetic.rv_amomax_d.Reads.Post
arithmetic-rv_amomax_d = record { total = λ κs a. tt; determined = λ κs a x y e f p q. (refl, both refl (both refl (both (p ∙ sym q) refl))) }

arithmetic-rv_amominu_d : Strong _ fn.arithmetic.rv_amominu_d.Kinds.ps fn.arithmetic.rv_amominu_d.Kinds.r fn.arithmetic.rv_amominu_d.Reads.Pre fn.arithmetic.rv_amominu_d.Reads.Post
arithmetic-rv_amominu_d = record { total = λ κs a. tt; determined = λ κs a x y e f p q. (refl, both refl (both refl (both (p ∙ sym q) refl))) }

arithmetic-rv_amomaxu_d : Strong _ fn.arithmetic.rv_amomaxu_d.Kinds.ps fn.arithmetic.rv_amomaxu_d.Kinds.r fn.arithmetic.rv_amomaxu_d.Reads.Pre fn.arithmetic.rv_amomaxu_d.Reads.Post
arithmetic-rv_amomaxu_d = record { total = λ κs a. tt; determined = λ κs a x y e f p q. (refl, both refl (both refl (both (p ∙ sym q) refl))) }

control-rv_csr_new : Strong _ fn.control.rv_csr_new.Kinds.ps fn.control.rv_csr_new.Kinds.r fn.control.rv_csr_new.Reads.Pre fn.control.rv_csr_new.Reads.Post
control-rv_csr_new = record { total = λ κs a. tt; determined = λ κs a x y e f p q. (refl, both (p ∙ sym q) refl) }

control-rv_csr_read : Strong _ fn.control.rv_csr_read.Kinds.ps fn.control.rv_csr_read.Kinds.r fn.control.rv_csr_read.Reads.Pre fn.control.rv_csr_read.Reads.Post
control-rv_csr_read = record { total = λ κs a. tt; determined = λ κs a x y e f p q. (p.number ∙ sym q.number, both refl (both refl (both refl (both (p.out ∙ sym q.out) refl)))) }

control-rv_csr_write : Strong _ fn.control.rv_csr_write.Kinds.ps fn.control.rv_csr_write.Kinds.r fn.control.rv_csr_write.Reads.Pre fn.control.rv_csr_write.Reads.Post
control-rv_csr_write = record { total = λ κs a. tt; determined = λ κs a x y e f p q. (p.0 ∙ sym q.0, both (p.1 ∙ sym q.1) refl) }

control-rv_csr_pending : Strong _ fn.control.rv_csr_pending.Kinds.ps fn.control.rv_csr_pending.Kinds.r fn.control.rv_csr_pending.Reads.Pre fn.control.rv_csr_pending.Reads.Post
control-rv_csr_pending = record { total = λ κs a. tt; determined = λ κs a x y e f p q. (p.flag ∙ sym q.flag, both refl (both refl (both (p.out ∙ sym q.out) refl))) }

fields-rv_opcode : Strong _ fn.fields.rv_opcode.Kinds.ps fn.fields.rv_opcode.Kinds.r fn.fields.rv_opcode.Reads.Pre fn.fields.rv_opcode.Reads.Post
fields-rv_opcode = equation (λ κs a e f. refl)

fields-rv_funct3 : Strong _ fn.fields.rv_funct3.Kinds.ps fn.fields.rv_funct3.Kinds.r fn.fields.rv_funct3.Reads.Pre fn.fields.rv_funct3.Reads.Post
fields-rv_funct3 = equation (λ κs a e f. refl)

fields-rv_funct7 : Strong _ fn.fields.rv_funct7.Kinds.ps fn.fields.rv_funct7.Kinds.r fn.fields.rv_funct7.Reads.Pre fn.fields.rv_funct7.Reads.Post
fields-rv_funct7 = equation (λ κs a e f. refl)

fields-rv_csr_addr : Strong _ fn.fields.rv_csr_addr.Kinds.ps fn.fields.rv_csr_addr.Kinds.r fn.fields.rv_csr_addr.Reads.Pre fn.fields.rv_csr_addr.Reads.Post
fields-rv_csr_addr = equation (λ κs a e f. refl)

fields-rv_funct5 : Strong _ fn.fields.rv_funct5.Kinds.ps fn.fields.rv_funct5.Kinds.r fn.fields.rv_funct5.Reads.Pre fn.fields.rv_funct5.Reads.Post
fields-rv_funct5 = equation (λ κs a e f. refl)

fields-rv_rd : Strong _ fn.fields.rv_rd.Kinds.ps fn.fields.rv_rd.Kinds.r fn.fields.rv_rd.Reads.Pre fn.fields.rv_rd.Reads.Post
fields-rv_rd = equation (λ κs a e f. refl)

fields-rv_rs1 : Strong _ fn.fields.rv_rs1.Kinds.ps fn.fields.rv_rs1.Kinds.r fn.fields.rv_rs1.Reads.Pre fn.fields.rv_rs1.Reads.Post
fields-rv_rs1 = equation (λ κs a e f. refl)

fields-rv_rs2 : Strong _ fn.fields.rv_rs2.Kinds.ps fn.fields.rv_rs2.Kinds.r fn.fields.rv_rs2.Reads.Pre fn.fields.rv_rs2.Reads.Post
fields-rv_rs2 = equation (λ κs a e f. refl)

fields-rv_imm_i : Strong _ fn.fields.rv_imm_i.Kinds.ps fn.fields.rv_imm_i.Kinds.r fn.fields.rv_imm_i.Reads.Pre fn.fields.rv_imm_i.Reads.Post
fields-rv_imm_i = equation (λ κs a e f. refl)

fields-rv_imm_s : Strong _ fn.fields.rv_imm_s.Kinds.ps fn.fields.rv_imm_s.Kinds.r fn.fields.rv_imm_s.Reads.Pre fn.fields.rv_imm_s.Reads.Post
fields-rv_imm_s = equation (λ κs a e f. refl)

fields-rv_imm_b : Strong _ fn.fields.rv_imm_b.Kinds.ps fn.fields.rv_imm_b.Kinds.r fn.fields.rv_imm_b.Reads.Pre fn.fields.rv_imm_b.Reads.Post
fields-rv_imm_b = equation (λ κs a e f. refl)

fields-rv_imm_u : Strong _ fn.fields.rv_imm_u.Kinds.ps fn.fields.rv_imm_u.Kinds.r fn.fields.rv_imm_u.Reads.Pre fn.fields.rv_imm_u.Reads.Post
fields-rv_imm_u = equation (λ κs a e f. refl)

fields-rv_imm_j : Strong _ fn.fields.rv_imm_j.Kinds.ps fn.fields.rv_imm_j.Kinds.r fn.fields.rv_imm_j.Reads.Pre fn.fields.rv_imm_j.Reads.Post
fields-rv_imm_j = equation (λ κs a e f. refl)

fields-rv_aq : Strong _ fn.fields.rv_aq.Kinds.ps fn.fields.rv_aq.Kinds.r fn.fields.rv_aq.Reads.Pre fn.fields.rv_aq.Reads.Post
fields-rv_aq = equation (λ κs a e f. refl)

fields-rv_rl : Strong _ fn.fields.rv_rl.Kinds.ps fn.fields.rv_rl.Kinds.r fn.fields.rv_rl.Reads.Pre fn.fields.rv_rl.Reads.Post
fields-rv_rl = equation (λ κs a e f. refl)

fields-rv_c_quadrant : Strong _ fn.fields.rv_c_quadrant.Kinds.ps fn.fields.rv_c_quadrant.Kinds.r fn.fields.rv_c_quadrant.Reads.Pre fn.fields.rv_c_quadrant.Reads.Post
fields-rv_c_quadrant = equation (λ κs a e f. refl)

fields-rv_c_funct3 : Strong _ fn.fields.rv_c_funct3.Kinds.ps fn.fields.rv_c_funct3.Kinds.r fn.fields.rv_c_funct3.Reads.Pre fn.fields.rv_c_funct3.Reads.Post
fields-rv_c_funct3 = equation (λ κs a e f. refl)

fields-rv_c_rs2_prime : Strong _ fn.fields.rv_c_rs2_prime.Kinds.ps fn.fields.rv_c_rs2_prime.Kinds.r fn.fields.rv_c_rs2_prime.Reads.Pre fn.fields.rv_c_rs2_prime.Reads.Post
fields-rv_c_rs2_prime = equation (λ κs a e f. refl)

fields-rv_c_rs1_prime : Strong _ fn.fields.rv_c_rs1_prime.Kinds.ps fn.fields.rv_c_rs1_prime.Kinds.r fn.fields.rv_c_rs1_prime.Reads.Pre fn.fields.rv_c_rs1_prime.Reads.Post
fields-rv_c_rs1_prime = equation (λ κs a e f. refl)

fields-rv_c_rd : Strong _ fn.fields.rv_c_rd.Kinds.ps fn.fields.rv_c_rd.Kinds.r fn.fields.rv_c_rd.Reads.Pre fn.fields.rv_c_rd.Reads.Post
fields-rv_c_rd = equation (λ κs a e f. refl)

fields-rv_c_rs2 : Strong _ fn.fields.rv_c_rs2.Kinds.ps fn.fields.rv_c_rs2.Kinds.r fn.fields.rv_c_rs2.Reads.Pre fn.fields.rv_c_rs2.Reads.Post
fields-rv_c_rs2 = equation (λ κs a e f. refl)

fields-rv_sign_extend : Strong _ fn.fields.rv_sign_extend.Kinds.ps fn.fields.rv_sign_extend.Kinds.r fn.fields.rv_sign_extend.Reads.Pre fn.fields.rv_sign_extend.Reads.Post
fields-rv_sign_extend = record { total = λ κs a. tt; determined = λ κs a x y e f p q. (p.number ∙ sym q.number, both refl (both refl (both (p.out ∙ sym q.out) refl))) }

memory-rv_read_byte : Strong _ fn.memory.rv_read_byte.Kinds.ps fn.memory.rv_read_byte.Kinds.r fn.memory.rv_read_byte.Reads.Pre fn.memory.rv_read_byte.Reads.Post
memory-rv_read_byte = record { total = λ κs a. tt; determined = λ κs a x y e f p q. (p.number ∙ sym q.number, both refl (both refl (both (p.out ∙ sym q.out) refl))) }

memory-rv_read_halfword : Strong _ fn.memory.rv_read_halfword.Kinds.ps fn.memory.rv_read_halfword.Kinds.r fn.memory.rv_read_halfword.Reads.Pre fn.memory.rv_read_halfword.Reads.Post
memory-rv_read_halfword = record { total = λ κs a. tt; determined = λ κs a x y e f p q. (p.number ∙ sym q.number, both refl (both refl (both (p.out ∙ sym q.out) refl))) }

memory-rv_read_word : Strong _ fn.memory.rv_read_word.Kinds.ps fn.memory.rv_read_word.Kinds.r fn.memory.rv_read_word.Reads.Pre fn.memory.rv_read_word.Reads.Post
memory-rv_read_word = record { total = λ κs a. tt; determined = λ κs a x y e f p q. (p.number ∙ sym q.number, both refl (both refl (both (p.out ∙ sym q.out) refl))) }

memory-rv_read_doubleword : Strong _ fn.memory.rv_read_doubleword.Kinds.ps fn.memory.rv_read_doubleword.Kinds.r fn.memory.rv_read_doubleword.Reads.Pre fn.memory.rv_read_doubleword.Reads.Post
memory-rv_read_doubleword = record { total = λ κs a. tt; determined = λ κs a x y e f p q. (p.number ∙ sym q.number, both refl (both refl (both (p.out ∙ sym q.out) refl))) }

memory-rv_write_byte : Strong _ fn.memory.rv_write_byte.Kinds.ps fn.memory.rv_write_byte.Kinds.r fn.memory.rv_write_byte.Reads.Pre fn.memory.rv_write_byte.Reads.Post
memory-rv_write_byte = record { total = λ κs a. tt; determined = λ κs a x y e f p q. (p.0 ∙ sym q.0, both (p.1 ∙ sym q.1) refl) }

memory-rv_write_halfword : Strong _ fn.memory.rv_write_halfword.Kinds.ps fn.memory.rv_write_halfword.Kinds.r fn.memory.rv_write_halfword.Reads.Pre fn.memory.rv_write_halfword.Reads.Post
memory-rv_write_halfword = record { total = λ κs a. tt; determined = λ κs a x y e f p q. (p.0 ∙ sym q.0, both (p.1 ∙ sym q.1) refl) }

memory-rv_write_word : Strong _ fn.memory.rv_write_word.Kinds.ps fn.memory.rv_write_word.Kinds.r fn.memory.rv_write_word.Reads.Pre fn.memory.rv_write_word.Reads.Post
memory-rv_write_word = record { total = λ κs a. tt; determined = λ κs a x y e f p q. (p.0 ∙ sym q.0, both (p.1 ∙ sym q.1) refl) }

memory-rv_write_doubleword : Strong _ fn.memory.rv_write_doubleword.Kinds.ps fn.memory.rv_write_doubleword.Kinds.r fn.memory.rv_write_doubleword.Reads.Pre fn.memory.rv_write_doubleword.Reads.Post
memory-rv_write_doubleword = record { total = λ κs a. tt; determined = λ κs a x y e f p q. (p.0 ∙ sym q.0, both (p.1 ∙ sym q.1) refl) }

memory-rv_load_at : Strong _ fn.memory.rv_load_at.Kinds.ps fn.memory.rv_load_at.Kinds.r fn.memory.rv_load_at.Reads.Pre fn.memory.rv_load_at.Reads.Post
memory-rv_load_at = record { total = λ κs a. tt; determined = λ κs a x y e f p q. (p.0 ∙ sym q.0, both (p.1 ∙ sym q.1) refl) }

registers-rv_gpr_new : Strong _ fn.registers.rv_gpr_new.Kinds.ps fn.registers.rv_gpr_new.Kinds.r fn.registers.rv_gpr_new.Reads.Pre fn.registers.rv_gpr_new.Reads.Post
registers-rv_gpr_new = record { total = λ κs a. tt; determined = λ κs a x y e f p q. (refl, both (p ∙ sym q) refl) }

registers-rv_gpr_read : Strong _ fn.registers.rv_gpr_read.Kinds.ps fn.registers.rv_gpr_read.Kinds.r fn.registers.rv_gpr_read.Reads.Pre fn.registers.rv_gpr_read.Reads.Post
registers-rv_gpr_read = record { total = λ κs a. tt; determined = λ κs a x y e f p q. (p.number ∙ sym q.number, both refl (both refl (both (p.out ∙ sym q.out) refl))) }

registers-rv_gpr_write : Strong _ fn.registers.rv_gpr_write.Kinds.ps fn.registers.rv_gpr_write.Kinds.r fn.registers.rv_gpr_write.Reads.Pre fn.registers.rv_gpr_write.Reads.Post
registers-rv_gpr_write = record { total = λ κs a. tt; determined = λ κs a x y e f p q. (p.0 ∙ sym q.0, both (p.1 ∙ sym q.1) refl) }

registers-rv_gpr_read_masked : Strong _ fn.registers.rv_gpr_read_masked.Kinds.ps fn.registers.rv_gpr_read_masked.Kinds.r fn.registers.rv_gpr_read_masked.Reads.Pre fn.registers.rv_gpr_read_masked.Reads.Post
registers-rv_gpr_read_masked = equation (λ κs a e f. refl)

registers-rv_gpr_write_masked : Strong _ fn.registers.rv_gpr_write_masked.Kinds.ps fn.registers.rv_gpr_write_masked.Kinds.r fn.registers.rv_gpr_write_masked.Reads.Pre fn.registers.rv_gpr_write_masked.Reads.Post
registers-rv_gpr_write_masked = record { total = λ κs a. tt; determined = λ κs a x y e f p q. (refl, both (p ∙ sym q) refl) }

registers-rv_gpr_read_f : Strong _ fn.registers.rv_gpr_read_f.Kinds.ps fn.registers.rv_gpr_read_f.Kinds.r fn.registers.rv_gpr_read_f.Reads.Pre fn.registers.rv_gpr_read_f.Reads.Post
registers-rv_gpr_read_f = record { total = λ κs a. tt; determined = λ κs a x y e f p q. (p.number ∙ sym q.number, both refl (both refl (both (p.out ∙ sym q.out) refl))) }

registers-rv_gpr_write_f : Strong _ fn.registers.rv_gpr_write_f.Kinds.ps fn.registers.rv_gpr_write_f.Kinds.r fn.registers.rv_gpr_write_f.Reads.Pre fn.registers.rv_gpr_write_f.Reads.Post
registers-rv_gpr_write_f = record { total = λ κs a. tt; determined = λ κs a x y e f p q. (p.0 ∙ sym q.0, both (p.1 ∙ sym q.1) refl) }

registers-rv_gpr_read_f32 : Strong _ fn.registers.rv_gpr_read_f32.Kinds.ps fn.registers.rv_gpr_read_f32.Kinds.r fn.registers.rv_gpr_read_f32.Reads.Pre fn.registers.rv_gpr_read_f32.Reads.Post
registers-rv_gpr_read_f32 = record { total = λ κs a. tt; determined = λ κs a x y e f p q. (p.number ∙ sym q.number, both refl (both refl (both (p.out ∙ sym q.out) refl))) }

registers-rv_gpr_write_f32 : Strong _ fn.registers.rv_gpr_write_f32.Kinds.ps fn.registers.rv_gpr_write_f32.Kinds.r fn.registers.rv_gpr_write_f32.Reads.Pre fn.registers.rv_gpr_write_f32.Reads.Post
registers-rv_gpr_write_f32 = record { total = λ κs a. tt; determined = λ κs a x y e f p q. (p.0 ∙ sym q.0, both (p.1 ∙ sym q.1) refl) }

translation-rv_mmu_new : Strong _ fn.translation.rv_mmu_new.Kinds.ps fn.translation.rv_mmu_new.Kinds.r fn.translation.rv_mmu_new.Reads.Pre fn.translation.rv_mmu_new.Reads.Post
translation-rv_mmu_new = record { total = λ κs a. tt; determined = λ κs a x y e f p q. (refl, both (p ∙ sym q) refl) }

translation-rv_flush : Strong _ fn.translation.rv_flush.Kinds.ps fn.translation.rv_flush.Kinds.r fn.translation.rv_flush.Reads.Pre fn.translation.rv_flush.Reads.Post
translation-rv_flush = record { total = λ κs a. tt; determined = λ κs a x y e f p q. (refl, both (p ∙ sym q) refl) }

translation-rv_translate_fetch : Strong _ fn.translation.rv_translate_fetch.Kinds.ps fn.translation.rv_translate_fetch.Kinds.r fn.translation.rv_translate_fetch.Reads.Pre fn.translation.rv_translate_fetch.Reads.Post
translation-rv_translate_fetch = record { total = λ κs a. tt; determined = λ κs a x y e f p q. (p.answer.number ∙ sym q.answer.number, both (p.words ∙ sym q.words) (both refl (both refl (both refl (both refl (both refl (both (p.answer.out ∙ sym q.answer.out) refl))))))) }

translation-rv_translate_load : Strong _ fn.translation.rv_translate_load.Kinds.ps fn.translation.rv_translate_load.Kinds.r fn.translation.rv_translate_load.Reads.Pre fn.translation.rv_translate_load.Reads.Post
translation-rv_translate_load = record { total = λ κs a. tt; determined = λ κs a x y e f p q. (p.answer.number ∙ sym q.answer.number, both (p.words ∙ sym q.words) (both refl (both refl (both refl (both refl (both refl (both (p.answer.out ∙ sym q.answer.out) refl))))))) }

translation-rv_translate_store : Strong _ fn.translation.rv_translate_store.Kinds.ps fn.translation.rv_translate_store.Kinds.r fn.translation.rv_translate_store.Reads.Pre fn.translation.rv_translate_store.Reads.Post
translation-rv_translate_store = record { total = λ κs a. tt; determined = λ κs a x y e f p q. (p.answer.number ∙ sym q.answer.number, both (p.words ∙ sym q.words) (both refl (both refl (both refl (both refl (both refl (both (p.answer.out ∙ sym q.answer.out) refl))))))) }

translation-rv_translate_readable : Strong _ fn.translation.rv_translate_readable.Kinds.ps fn.translation.rv_translate_readable.Kinds.r fn.translation.rv_translate_readable.Reads.Pre fn.translation.rv_translate_readable.Reads.Post
translation-rv_translate_readable = record { total = λ κs a. tt; determined = λ κs a x y e f p q. (p.number ∙ sym q.number, both refl (both refl (both refl (both refl (both refl (both (p.out ∙ sym q.out) refl)))))) }
