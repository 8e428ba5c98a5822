-- The contract of each public function takes anything and allows one outcome. Assumes nothing.
use mathlib.Core.Path.{refl, sym, ◌∙◌}
use Rattle.answers.specs.Strong.{Strong}
use Rattle.mmu.proofs.Determined.{translations, calls, outcomes}
use Rattle.answers.proofs.Strong.{equation}
use Rattle.mmu.proofs as fn

MmuFault-mcause : Strong _ fn.MmuFault.mcause.Kinds.ps fn.MmuFault.mcause.Kinds.r fn.MmuFault.mcause.Reads.Pre fn.MmuFault.mcause.Reads.Post
MmuFault-mcause = equation (λ κs a e f. refl)

MmuFault-tval : Strong _ fn.MmuFault.tval.Kinds.ps fn.MmuFault.tval.Kinds.r fn.MmuFault.tval.Reads.Pre fn.MmuFault.tval.Reads.Post
MmuFault-tval = equation (λ κs a e f. refl)

MmuFault-page_fault : Strong _ fn.MmuFault.page_fault.Kinds.ps fn.MmuFault.page_fault.Kinds.r fn.MmuFault.page_fault.Reads.Pre fn.MmuFault.page_fault.Reads.Post
MmuFault-page_fault = equation (λ κs a e f. refl)

Call-new : Strong _ fn.Call.new.Kinds.ps fn.Call.new.Kinds.r fn.Call.new.Reads.Pre fn.Call.new.Reads.Post
Call-new = equation (λ κs a e f. refl)

TlbEntry-empty : Strong _ fn.TlbEntry.empty.Kinds.ps fn.TlbEntry.empty.Kinds.r fn.TlbEntry.empty.Reads.Pre fn.TlbEntry.empty.Reads.Post
TlbEntry-empty = equation (λ κs a e f. refl)

TlbEntry-is_live : Strong _ fn.TlbEntry.is_live.Kinds.ps fn.TlbEntry.is_live.Kinds.r fn.TlbEntry.is_live.Reads.Pre fn.TlbEntry.is_live.Reads.Post
TlbEntry-is_live = equation (λ κs a e f. refl)

Shortcut-empty : Strong _ fn.Shortcut.empty.Kinds.ps fn.Shortcut.empty.Kinds.r fn.Shortcut.empty.Reads.Pre fn.Shortcut.empty.Reads.Post
Shortcut-empty = equation (λ κs a e f. refl)

Shortcut-is_for : Strong _ fn.Shortcut.is_for.Kinds.ps fn.Shortcut.is_for.Kinds.r fn.Shortcut.is_for.Reads.Pre fn.Shortcut.is_for.Reads.Post
Shortcut-is_for = equation (λ κs a e f. refl)

Shortcut-forget : Strong _ fn.Shortcut.forget.Kinds.ps fn.Shortcut.forget.Kinds.r fn.Shortcut.forget.Reads.Pre fn.Shortcut.forget.Reads.Post
Shortcut-forget = equation (λ κs a e f. refl)

address_in : Strong _ fn.address_in.Kinds.ps fn.address_in.Kinds.r fn.address_in.Reads.Pre fn.address_in.Reads.Post
address_in = equation (λ κs a e f. refl)

Kept-decide : Strong _ fn.Kept.decide.Kinds.ps fn.Kept.decide.Kinds.r fn.Kept.decide.Reads.Pre fn.Kept.decide.Reads.Post
Kept-decide = record { total = λ κs a. tt; determined = λ κs a x y e f p q. (outcomes x y (p ∙ sym q), refl) }

slot_index : Strong _ fn.slot_index.Kinds.ps fn.slot_index.Kinds.r fn.slot_index.Reads.Pre fn.slot_index.Reads.Post
slot_index = equation (λ κs a e f. refl)

next_epoch : Strong _ fn.next_epoch.Kinds.ps fn.next_epoch.Kinds.r fn.next_epoch.Reads.Pre fn.next_epoch.Reads.Post
next_epoch = equation (λ κs a e f. refl)

Mmu-new : Strong _ fn.Mmu.new.Kinds.ps fn.Mmu.new.Kinds.r fn.Mmu.new.Reads.Pre fn.Mmu.new.Reads.Post
Mmu-new = equation (λ κs a e f. refl)

Mmu-flush : Strong _ fn.Mmu.flush.Kinds.ps fn.Mmu.flush.Kinds.r fn.Mmu.flush.Reads.Pre fn.Mmu.flush.Reads.Post
Mmu-flush = equation (λ κs a e f. refl)

Mmu-translate_readable : Strong _ fn.Mmu.translate_readable.Kinds.ps fn.Mmu.translate_readable.Kinds.r fn.Mmu.translate_readable.Reads.Pre fn.Mmu.translate_readable.Reads.Post
Mmu-translate_readable = record { total = λ κs a. tt; determined = λ κs a x y e f p q. (translations x y (p ∙ sym q), refl) }

Mmu-translate : Strong _ fn.Mmu.translate.Kinds.ps fn.Mmu.translate.Kinds.r fn.Mmu.translate.Reads.Pre fn.Mmu.translate.Reads.Post
Mmu-translate = record { total = λ κs a. tt; determined = λ κs a x y e f p q. (calls x y (p.0 ∙ sym q.0) (p.1 ∙ sym q.1), refl) }
