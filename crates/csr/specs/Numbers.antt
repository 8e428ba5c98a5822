-- The manual's numbers for the names of csr.rs: the addresses of "CSR Listing" (Volume II), and the masks of the fields of mstatus and of mip.
use Rattle.std.specs.Prelude.{List, [], ◌∷◌, ℕ, ◌+◌, ◌-◌, ◌^◌}

abbrev pub csr_addresses : List ℕ
csr_addresses =
    0x300  -- mstatus
    ∷ 0x301  -- misa
    ∷ 0x302  -- medeleg
    ∷ 0x303  -- mideleg
    ∷ 0x304  -- mie
    ∷ 0x305  -- mtvec
    ∷ 0x306  -- mcounteren
    ∷ 0x320  -- mcountinhibit
    ∷ 0x340  -- mscratch
    ∷ 0x341  -- mepc
    ∷ 0x342  -- mcause
    ∷ 0x343  -- mtval
    ∷ 0x344  -- mip
    ∷ 0x30a  -- menvcfg
    ∷ 0xf15  -- mconfigptr
    ∷ 0x100  -- sstatus
    ∷ 0x104  -- sie
    ∷ 0x105  -- stvec
    ∷ 0x106  -- scounteren
    ∷ 0x10a  -- senvcfg
    ∷ 0x140  -- sscratch
    ∷ 0x141  -- sepc
    ∷ 0x142  -- scause
    ∷ 0x143  -- stval
    ∷ 0x144  -- sip
    ∷ 0x180  -- satp
    ∷ 0xc00  -- cycle
    ∷ 0xc01  -- time
    ∷ 0xc02  -- instret
    ∷ 0xb00  -- mcycle
    ∷ 0xb02  -- minstret
    ∷ 0xf11  -- mvendorid
    ∷ 0xf12  -- marchid
    ∷ 0xf13  -- mimpid
    ∷ 0xf14  -- mhartid
    ∷ []

-- the mask of the bits from hi down to lo
abbrev pub field : ℕ → ℕ → ℕ
field hi lo = 2 ^ (hi + 1) - 2 ^ lo

-- "Machine Status Registers (mstatus and mstatush)", for RV64; then "Machine Interrupt Registers (mip and mie)"
abbrev pub field_masks : List ℕ
field_masks =
    field 1 1  -- SIE
    ∷ field 3 3  -- MIE
    ∷ field 5 5  -- SPIE
    ∷ field 6 6  -- UBE
    ∷ field 7 7  -- MPIE
    ∷ field 8 8  -- SPP
    ∷ field 10 9  -- VS
    ∷ field 12 11  -- MPP
    ∷ field 14 13  -- FS
    ∷ field 16 15  -- XS
    ∷ field 17 17  -- MPRV
    ∷ field 18 18  -- SUM
    ∷ field 19 19  -- MXR
    ∷ field 20 20  -- TVM
    ∷ field 21 21  -- TW
    ∷ field 22 22  -- TSR
    ∷ field 33 32  -- UXL
    ∷ field 35 34  -- SXL
    ∷ field 36 36  -- SBE
    ∷ field 37 37  -- MBE
    ∷ field 63 63  -- SD
    ∷ field 1 1  -- SSIP
    ∷ field 3 3  -- MSIP
    ∷ field 5 5  -- STIP
    ∷ field 7 7  -- MTIP
    ∷ field 9 9  -- SEIP
    ∷ field 11 11  -- MEIP
    ∷ []
