-- The contract of each public function takes anything and allows one outcome. Assumes nothing.
use contract.BorrowLft.{⊑_static}
use denote.Builtin.{u8, u16, u32, u64}
use mathlib.Core.Path.{refl, sym, ◌∙◌}
use Rattle.answers.specs.Strong.{Strong, Lasting}
use Rattle.answers.proofs.Determined.{acceptances, readings}
use Rattle.answers.proofs.Strong.{equation, both}
use Rattle.system_bus.proofs as fn

-- A generic function's contract is strong at every type that outlives the call, whatever its impl of Stored says. These four outlive all calls.
byte : Lasting u8
byte = ⊑_static

halfword : Lasting u16
halfword = ⊑_static

word : Lasting u32
word = ⊑_static

doubleword : Lasting u64
doubleword = ⊑_static

usable : Strong _ fn.usable.Kinds.ps fn.usable.Kinds.r fn.usable.Reads.Pre fn.usable.Reads.Post
usable = equation (λ κs a e f. refl)

read : (N : _) (L : _) (C : _) (g : _) (d : _) (h : _) (e : _) → Lasting N → Strong _ (fn.read.Kinds.ps N L C) (fn.read.Kinds.r N L C) (fn.read.Reads.Pre N L C g d h e) (fn.read.Reads.Post N L C g d h e)
read N L C g d h e lasts = record { total = λ κs a. lasts κs.1.0; determined = λ κs a x y e f p q. (readings x y (p ∙ sym q), refl) }

write : (N : _) (L : _) (C : _) (g : _) (d : _) (h : _) (e : _) → Lasting N → Strong _ (fn.write.Kinds.ps N L C) (fn.write.Kinds.r N L C) (fn.write.Reads.Pre N L C g d h e) (fn.write.Reads.Post N L C g d h e)
write N L C g d h e lasts = record { total = λ κs a. lasts κs.1.0; determined = λ κs a x y e f p q. (acceptances x y (p.0 ∙ sym q.0), both (p.1 ∙ sym q.1) refl) }

load_at : Strong _ fn.load_at.Kinds.ps fn.load_at.Kinds.r fn.load_at.Reads.Pre fn.load_at.Reads.Post
load_at = record { total = λ κs a. tt; determined = λ κs a x y e f p q. (acceptances x y (p.0 ∙ sym q.0), both (p.1 ∙ sym q.1) refl) }

stored-U8Stored-SIZE : Strong _ fn.stored.U8Stored.SIZE.Kinds.ps fn.stored.U8Stored.SIZE.Kinds.r fn.stored.U8Stored.SIZE.Reads.Pre fn.stored.U8Stored.SIZE.Reads.Post
stored-U8Stored-SIZE = equation (λ κs a e f. refl)

stored-U8Stored-load : Strong _ fn.stored.U8Stored.load.Kinds.ps fn.stored.U8Stored.load.Kinds.r fn.stored.U8Stored.load.Reads.Pre fn.stored.U8Stored.load.Reads.Post
stored-U8Stored-load = equation (λ κs a e f. refl)

stored-U8Stored-store : Strong _ fn.stored.U8Stored.store.Kinds.ps fn.stored.U8Stored.store.Kinds.r fn.stored.U8Stored.store.Reads.Pre fn.stored.U8Stored.store.Reads.Post
stored-U8Stored-store = record { total = λ κs a. tt; determined = λ κs a x y e f p q. (p.0 ∙ sym q.0, both refl (both (p.1 ∙ sym q.1) refl)) }

stored-U16Stored-SIZE : Strong _ fn.stored.U16Stored.SIZE.Kinds.ps fn.stored.U16Stored.SIZE.Kinds.r fn.stored.U16Stored.SIZE.Reads.Pre fn.stored.U16Stored.SIZE.Reads.Post
stored-U16Stored-SIZE = equation (λ κs a e f. refl)

stored-U16Stored-load : Strong _ fn.stored.U16Stored.load.Kinds.ps fn.stored.U16Stored.load.Kinds.r fn.stored.U16Stored.load.Reads.Pre fn.stored.U16Stored.load.Reads.Post
stored-U16Stored-load = equation (λ κs a e f. refl)

stored-U16Stored-store : Strong _ fn.stored.U16Stored.store.Kinds.ps fn.stored.U16Stored.store.Kinds.r fn.stored.U16Stored.store.Reads.Pre fn.stored.U16Stored.store.Reads.Post
stored-U16Stored-store = record { total = λ κs a. tt; determined = λ κs a x y e f p q. (p.0 ∙ sym q.0, both refl (both (p.1 ∙ sym q.1) refl)) }

stored-U32Stored-SIZE : Strong _ fn.stored.U32Stored.SIZE.Kinds.ps fn.stored.U32Stored.SIZE.Kinds.r fn.stored.U32Stored.SIZE.Reads.Pre fn.stored.U32Stored.SIZE.Reads.Post
stored-U32Stored-SIZE = equation (λ κs a e f. refl)

stored-U32Stored-load : Strong _ fn.stored.U32Stored.load.Kinds.ps fn.stored.U32Stored.load.Kinds.r fn.stored.U32Stored.load.Reads.Pre fn.stored.U32Stored.load.Reads.Post
stored-U32Stored-load = equation (λ κs a e f. refl)

stored-U32Stored-store : Strong _ fn.stored.U32Stored.store.Kinds.ps fn.stored.U32Stored.store.Kinds.r fn.stored.U32Stored.store.Reads.Pre fn.stored.U32Stored.store.Reads.Post
stored-U32Stored-store = record { total = λ κs a. tt; determined = λ κs a x y e f p q. (p.0 ∙ sym q.0, both refl (both (p.1 ∙ sym q.1) refl)) }

stored-U64Stored-SIZE : Strong _ fn.stored.U64Stored.SIZE.Kinds.ps fn.stored.U64Stored.SIZE.Kinds.r fn.stored.U64Stored.SIZE.Reads.Pre fn.stored.U64Stored.SIZE.Reads.Post
stored-U64Stored-SIZE = equation (λ κs a e f. refl)

stored-U64Stored-load : Strong _ fn.stored.U64Stored.load.Kinds.ps fn.stored.U64Stored.load.Kinds.r fn.stored.U64Stored.load.Reads.Pre fn.stored.U64Stored.load.Reads.Post
stored-U64Stored-load = equation (λ κs a e f. refl)

stored-U64Stored-store : Strong _ fn.stored.U64Stored.store.Kinds.ps fn.stored.U64Stored.store.Kinds.r fn.stored.U64Stored.store.Reads.Pre fn.stored.U64Stored.store.Reads.Post
stored-U64Stored-store = record { total = λ κs a. tt; determined = λ κs a x y e f p q. (p.0 ∙ sym q.0, both refl (both (p.1 ∙ sym q.1) refl)) }
