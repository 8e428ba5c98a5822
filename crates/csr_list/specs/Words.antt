-- The words of the CSR file, in the order of the fields of csr.rs: how many there are, and where those stand that a definition names.
use Rattle.std.specs.Prelude.{ℕ}

abbrev pub csr_words : ℕ
csr_words = 136

abbrev pub mstatus_word : ℕ
mstatus_word = 0

abbrev pub misa_word : ℕ
misa_word = 1

abbrev pub mideleg_word : ℕ
mideleg_word = 3

abbrev pub mie_word : ℕ
mie_word = 4

abbrev pub mip_word : ℕ
mip_word = 12
