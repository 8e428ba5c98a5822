-- The contract of each public function takes anything and allows one outcome. Assumes nothing.
use contract.BorrowLft.{⊑_static}
use denote.Builtin.{u32, u64}
use Rattle.std.proofs.Common.{refl}
use Rattle.answers.specs.Strong.{Strong, Lasting}
use Rattle.answers.proofs.Strong.{equation, generic}
use Rattle.extensions.proofs as fn

-- A generic function's contract is strong at every type that outlives the call, whatever its impl of Operand says. These two outlive all calls.
word : Lasting u32
word = ⊑_static

doubleword : Lasting u64
doubleword = ⊑_static

U32Operand-low : Strong _ fn.U32Operand.low.Kinds.ps fn.U32Operand.low.Kinds.r fn.U32Operand.low.Reads.Pre fn.U32Operand.low.Reads.Post
U32Operand-low = equation (λ κs a e f. refl)

U32Operand-unsigned : Strong _ fn.U32Operand.unsigned.Kinds.ps fn.U32Operand.unsigned.Kinds.r fn.U32Operand.unsigned.Reads.Pre fn.U32Operand.unsigned.Reads.Post
U32Operand-unsigned = equation (λ κs a e f. refl)

U32Operand-signed : Strong _ fn.U32Operand.signed.Kinds.ps fn.U32Operand.signed.Kinds.r fn.U32Operand.signed.Reads.Pre fn.U32Operand.signed.Reads.Post
U32Operand-signed = equation (λ κs a e f. refl)

U64Operand-low : Strong _ fn.U64Operand.low.Kinds.ps fn.U64Operand.low.Kinds.r fn.U64Operand.low.Reads.Pre fn.U64Operand.low.Reads.Post
U64Operand-low = equation (λ κs a e f. refl)

U64Operand-unsigned : Strong _ fn.U64Operand.unsigned.Kinds.ps fn.U64Operand.unsigned.Kinds.r fn.U64Operand.unsigned.Reads.Pre fn.U64Operand.unsigned.Reads.Post
U64Operand-unsigned = equation (λ κs a e f. refl)

U64Operand-signed : Strong _ fn.U64Operand.signed.Kinds.ps fn.U64Operand.signed.Kinds.r fn.U64Operand.signed.Reads.Pre fn.U64Operand.signed.Reads.Post
U64Operand-signed = equation (λ κs a e f. refl)

atomic : (T : _) (L : _) (C : _) (g : _) (d : _) (h : _) (e : _) → Lasting T → Strong _ (fn.atomic.Kinds.ps T L C) (fn.atomic.Kinds.r T L C) (fn.atomic.Reads.Pre T L C g d h e) (fn.atomic.Reads.Post T L C g d h e)
atomic T L C g d h e lasts = generic (λ κs a. lasts κs.0) (λ κs a e f. refl)

mul : (T : _) (L : _) (C : _) (g : _) (d : _) (h : _) (e : _) → Lasting T → Strong _ (fn.mul.Kinds.ps T L C) (fn.mul.Kinds.r T L C) (fn.mul.Reads.Pre T L C g d h e) (fn.mul.Reads.Post T L C g d h e)
mul T L C g d h e lasts = generic (λ κs a. lasts κs.0) (λ κs a e f. refl)

mulh : Strong _ fn.mulh.Kinds.ps fn.mulh.Kinds.r fn.mulh.Reads.Pre fn.mulh.Reads.Post
mulh = equation (λ κs a e f. refl)

mulhu : Strong _ fn.mulhu.Kinds.ps fn.mulhu.Kinds.r fn.mulhu.Reads.Pre fn.mulhu.Reads.Post
mulhu = equation (λ κs a e f. refl)

mulhsu : Strong _ fn.mulhsu.Kinds.ps fn.mulhsu.Kinds.r fn.mulhsu.Reads.Pre fn.mulhsu.Reads.Post
mulhsu = equation (λ κs a e f. refl)

div : (T : _) (L : _) (C : _) (g : _) (d : _) (h : _) (e : _) → Lasting T → Strong _ (fn.div.Kinds.ps T L C) (fn.div.Kinds.r T L C) (fn.div.Reads.Pre T L C g d h e) (fn.div.Reads.Post T L C g d h e)
div T L C g d h e lasts = generic (λ κs a. lasts κs.0) (λ κs a e f. refl)

divu : (T : _) (L : _) (C : _) (g : _) (d : _) (h : _) (e : _) → Lasting T → Strong _ (fn.divu.Kinds.ps T L C) (fn.divu.Kinds.r T L C) (fn.divu.Reads.Pre T L C g d h e) (fn.divu.Reads.Post T L C g d h e)
divu T L C g d h e lasts = generic (λ κs a. lasts κs.0) (λ κs a e f. refl)

rem : (T : _) (L : _) (C : _) (g : _) (d : _) (h : _) (e : _) → Lasting T → Strong _ (fn.rem.Kinds.ps T L C) (fn.rem.Kinds.r T L C) (fn.rem.Reads.Pre T L C g d h e) (fn.rem.Reads.Post T L C g d h e)
rem T L C g d h e lasts = generic (λ κs a. lasts κs.0) (λ κs a e f. refl)

remu : (T : _) (L : _) (C : _) (g : _) (d : _) (h : _) (e : _) → Lasting T → Strong _ (fn.remu.Kinds.ps T L C) (fn.remu.Kinds.r T L C) (fn.remu.Reads.Pre T L C g d h e) (fn.remu.Reads.Post T L C g d h e)
remu T L C g d h e lasts = generic (λ κs a. lasts κs.0) (λ κs a e f. refl)
