-- Demand 3, of the exported functions: each puts the outcome of its call into the words, as the translation on words does. Assumes nothing.
use mathlib.Core.List.{List}
use Prim.Native.Nat.{ℕ}
use contract.Lifetimes.{Lfts}
use denote.Triple.Clauses.{AtExit}
use borrow.Fn.Kinds.{Out, Dens, ended_of}
use Rattle.csr.specs.Modes.{mode_of}
use Rattle.access.specs.Asked.{access_of}
use Rattle.access.specs.declared.Kind.{Kind}
use Rattle.access.specs.declared.Kind.TheVariants.{Fetch, Load, Store}
use Rattle.mmu.specs.Cache.{Call, call_of}
use Rattle.mmu_words.proofs.Promised as words
use Rattle.host.proofs.translation as fn

-- the three have one signature: the words, the memory, an address, satp, the hart's privilege, mstatus, and two words for the answer
abbrev pub Contract : Type 1
Contract = Out 3 fn.rv_translate_load.Kinds.ps fn.rv_translate_load.Kinds.r

abbrev pub Args : Lfts 3 → Type 0
Args κs = Dens κs fn.rv_translate_load.Kinds.ps

abbrev pub Exits : Lfts 3 → Type 0
Exits κs = AtExit (ended_of 3 fn.rv_translate_load.Kinds.ps fn.rv_translate_load.Kinds.r) κs

-- the call that some arguments make; the words and the answer's two words after it
abbrev pub call : Kind → (κs : Lfts 3) → Args κs → Call
call k κs a = call_of k a.1.0.now a.1.1.0 a.1.1.1.0 (mode_of a.1.1.1.1.0) a.1.1.1.1.1.0

abbrev pub after : (κs : Lfts 3) → Exits κs → List ℕ
after κs e = e.0.now

abbrev pub out : (κs : Lfts 3) → Exits κs → List ℕ
out κs e = e.1.1.1.1.1.1.0.now

-- what each asks of a contract of theirs
abbrev pub Fresh : Kind → Contract → Type 0
Fresh k Post = (κs : Lfts 3) (a : Args κs) (r : ℕ) (e : Exits κs) → Post κs a r e → words.Fresh (call k κs a) a.0.now r (out κs e)

abbrev pub Guarded : Kind → Contract → Type 0
Guarded k Post = (κs : Lfts 3) (a : Args κs) (r : ℕ) (e : Exits κs) → Post κs a r e → words.Guarded (call k κs a) a.0.now r (out κs e)

abbrev pub Barred : Kind → Contract → Type 0
Barred k Post = (κs : Lfts 3) (a : Args κs) (r : ℕ) (e : Exits κs) → Post κs a r e → words.Barred (call k κs a) a.0.now (after κs e) r (out κs e)

abbrev pub Free : Kind → Contract → Type 0
Free k Post = (κs : Lfts 3) (a : Args κs) (r : ℕ) (e : Exits κs) → Post κs a r e
    → (κs' : Lfts 3) (b : Args κs') (q : ℕ) (f : Exits κs') → Post κs' b q f
    → words.Free (call k κs a) a.0.now (after κs e) r (out κs e) (call k κs' b) b.0.now q (out κs' f)

-- THE DEMAND
pub rv_translate_fetch_fresh : Fresh Fetch fn.rv_translate_fetch.Reads.Post
rv_translate_fetch_fresh κs a r e p = words.fresh (call Fetch κs a) p

pub rv_translate_load_fresh : Fresh Load fn.rv_translate_load.Reads.Post
rv_translate_load_fresh κs a r e p = words.fresh (call Load κs a) p

pub rv_translate_store_fresh : Fresh Store fn.rv_translate_store.Reads.Post
rv_translate_store_fresh κs a r e p = words.fresh (call Store κs a) p

-- THE PRIVILEGE
pub rv_translate_fetch_guarded : Guarded Fetch fn.rv_translate_fetch.Reads.Post
rv_translate_fetch_guarded κs a r e p = words.guarded (call Fetch κs a) p

pub rv_translate_load_guarded : Guarded Load fn.rv_translate_load.Reads.Post
rv_translate_load_guarded κs a r e p = words.guarded (call Load κs a) p

pub rv_translate_store_guarded : Guarded Store fn.rv_translate_store.Reads.Post
rv_translate_store_guarded κs a r e p = words.guarded (call Store κs a) p

-- WHAT MAY NOT BE ASKED FOR
pub rv_translate_fetch_barred : Barred Fetch fn.rv_translate_fetch.Reads.Post
unfolding access_of
rv_translate_fetch_barred κs a r e p = words.turned (call Fetch κs a) p

pub rv_translate_load_barred : Barred Load fn.rv_translate_load.Reads.Post
unfolding access_of
rv_translate_load_barred κs a r e p = words.turned (call Load κs a) p

pub rv_translate_store_barred : Barred Store fn.rv_translate_store.Reads.Post
unfolding access_of
rv_translate_store_barred κs a r e p = words.turned (call Store κs a) p

-- THE LAST SENTENCE
pub rv_translate_fetch_free : Free Fetch fn.rv_translate_fetch.Reads.Post
rv_translate_fetch_free κs a r e p κs' b q f p' = words.free (call Fetch κs a) p (call Fetch κs' b) p'

pub rv_translate_load_free : Free Load fn.rv_translate_load.Reads.Post
rv_translate_load_free κs a r e p κs' b q f p' = words.free (call Load κs a) p (call Load κs' b) p'

pub rv_translate_store_free : Free Store fn.rv_translate_store.Reads.Post
rv_translate_store_free κs a r e p κs' b q f p' = words.free (call Store κs a) p (call Store κs' b) p'
