-- Demand 3, of the contracts: whatever meets the contract of the translation on words keeps the demand, for fetches, loads and stores. Assumes nothing.
use Rattle.std.specs.Prelude.{Ok, Err}
use mathlib.Core.Path.{◌≡◌, refl, sym, ap, ◌∙◌}
use mathlib.Core.Bool.{true, false}
use mathlib.Core.List.{List, [], ◌∷◌}
use Prim.Native.Nat.{ℕ, ◌^◌, ◌<◌}
use native.Mathlib.Omega.{arith}
use contract.Lifetimes.{Lfts}
use denote.Triple.Clauses.{AtExit}
use borrow.Fn.Kinds.{Out, Dens, ended_of}
use lib.ListN.{get_or}
use Rattle.answers.specs.Answer.{Answer, done, given, is_given}
use Rattle.answers.proofs.Determined.{number_positive}
use Rattle.walk.specs.Walk.{Reached, found, lost, askable}
use Rattle.walk.specs.Walked.{page_fault}
use Rattle.access.specs.Allowed.{Closed}
use Rattle.access.specs.declared.Kind.{Kind}
use Rattle.access.specs.declared.Kind.TheVariants.{Fetch, Load, Store}
use Rattle.mmu.specs.Answers.{Translation, At, cause_of, tval_of, fault_of, translation, without_reads}
use Rattle.mmu.specs.Cache.{Call, frame_of, in_frame, accepts, fresh_walk, answer_of}
use Rattle.mmu.specs.History.{Event, called, paged, Undisturbed, reached_answer, fresh_answer, faulted, LeafOf}
use Rattle.mmu.specs.declared.Outcome.{Outcome}
use Rattle.mmu.specs.declared.Outcome.TheVariants.{Stay}
use Rattle.mmu.specs.declared.Failure.TheVariants.{Fault, Refused}
use Rattle.mmu.proofs.Determined.{code_positive}
use Rattle.mmu.proofs.Guarded.{fresh_shut}
use Rattle.mmu.proofs.Barred.{turned_away}
use Rattle.mmu.proofs.Again.{Again}
use Rattle.mmu_words.specs.Words.{new_words, call_asked, outcome_in, words_after, given_pair, Translates, words_step, words_run}
use Rattle.mmu_words.proofs.Demanded.{words_fresh, words_barred, words_free}
use Rattle.mmu_words.proofs as fn

-- ---- the demand of one call c, with the words before and after it, the number r and the two words of the answer

-- THE DEMAND: on words that a history led to, under the conditions, the number is the fresh walk's, and the first of the two words its address, or the
-- address at fault
abbrev pub Fresh : Call → List ℕ → ℕ → List ℕ → Type 0
Fresh c before r out = (h : List Event) → before ≡ words_run new_words h → c.address < 2 ^ 64 → paged c ≡ true → Undisturbed h c
    → (r ≡ (fresh_answer c).number) × (get_or out 0 0 ≡ given (fresh_answer c).values 0)

-- THE PRIVILEGE: and where the page is closed to the call, the number is the page fault's, and the first word the address asked for
abbrev pub Guarded : Call → List ℕ → ℕ → List ℕ → Type 0
Guarded c before r out = (h : List Event) → before ≡ words_run new_words h → c.address < 2 ^ 64 → paged c ≡ true → Undisturbed h c
    → (level leaf : ℕ) → LeafOf c level leaf → Closed c.access leaf → (r ≡ (faulted c).number) × (get_or out 0 0 ≡ c.address)

-- WHAT MAY NOT BE ASKED FOR: after any history, for an address that is not canonical, or under a satp that names no tables, the number is the page fault's,
-- the words stay, and the answer's two words are the address asked for and no read
abbrev pub Barred : Call → List ℕ → List ℕ → ℕ → List ℕ → Type 0
Barred c before after r out = (h : List Event) → before ≡ words_run new_words h → c.address < 2 ^ 64 → paged c ≡ true → askable c.address c.satp ≡ false
    → (r ≡ page_fault c.access.kind) × (after ≡ before) × (out ≡ c.address ∷ 0 ∷ [])

-- THE LAST SENTENCE: made again at once after a success, as the call d, it succeeds in the same frame and reads no table entry
abbrev pub Free : Call → List ℕ → List ℕ → ℕ → List ℕ → Call → List ℕ → ℕ → List ℕ → Type 0
Free c before after r out d again q out' = (h : List Event) → before ≡ words_run new_words h → again ≡ after
    → r ≡ 0 → Again c d → accepts d ≡ true → d.address < 2 ^ 64
    → (q ≡ 0) × (out' ≡ in_frame (frame_of (get_or out 0 0)) d.address ∷ 0 ∷ [])

-- ---- what the answer's two words show of a translation

same_number : (x : Translation) → (translation x).number ≡ (without_reads x).number
same_number (Ok t) = refl
same_number (Err (Fault f n)) = refl
same_number (Err (Refused e)) = refl

first_word : (x : Translation) (old : List ℕ) → is_given (without_reads x).values ≡ true → get_or (given_pair (translation x).values old) 0 0 ≡ given (without_reads x).values 0
first_word (Ok t) old h = refl
first_word (Err (Fault f n)) old h = refl
first_word (Err (Refused e)) old h = let z : ◌≡◌ {A = ℕ} 0 1 = cc in absurd (omega arith)

fresh_given : (c : Call) (w : Reached) → is_given (reached_answer c w).values ≡ true
fresh_given c (found t e) = refl
fresh_given c lost = refl

-- a page fault's value is the address asked for
at_fault : (k : Kind) (a : ℕ) → tval_of (fault_of k a) ≡ a
at_fault Fetch a = refl
at_fault Load a = refl
at_fault Store a = refl

its_number : (k : Kind) (a : ℕ) → cause_of (fault_of k a) ≡ page_fault k
its_number Fetch a = refl
its_number Load a = refl
its_number Store a = refl

succeeded : (x : Translation) (old : List ℕ) → (translation x).number ≡ 0 → without_reads x ≡ done (get_or (given_pair (translation x).values old) 0 0)
succeeded (Ok t) old h = refl
succeeded (Err (Fault f n)) old h = absurd (code_positive f h)
succeeded (Err (Refused e)) old h = absurd (number_positive e h)

-- ---- each, of whatever gives the outcome on the words

module _ (c : Call) {ws old ws' new : List ℕ} {r : ℕ} (p : Translates c ws old r ws' new) where
  abbrev answer : Translation
  answer = answer_of (outcome_in ws c)

  pub fresh : Fresh c ws r new
  fresh h s small g u =
      let w : without_reads answer ≡ fresh_answer c = ap (λ (l : List ℕ). without_reads (answer_of (outcome_in l c))) s ∙ words_fresh h c small g u
      in let i : is_given (without_reads answer).values ≡ true = ap (λ (t : Answer ℕ). is_given t.values) w ∙ fresh_given c (fresh_walk c)
      in (
        p.answer.number ∙ same_number answer ∙ ap (λ (t : Answer ℕ). t.number) w,
        ap (λ (l : List ℕ). get_or l 0 0) p.answer.out ∙ first_word answer old i ∙ ap (λ (t : Answer ℕ). given t.values 0) w,
      )

  pub guarded : Guarded c ws r new
  guarded h s small g u level leaf at shuts =
      let f = fresh h s small g u
      in let z : fresh_answer c ≡ faulted c = fresh_shut c level leaf at shuts
      in (f.0 ∙ ap (λ (t : Answer ℕ). t.number) z, f.1 ∙ ap (λ (t : Answer ℕ). given t.values 0) z ∙ at_fault c.access.kind c.address)

  pub turned : Barred c ws ws' r new
  turned h s small g b =
      let o : outcome_in ws c ≡ Stay (turned_away c) = ap (λ (l : List ℕ). outcome_in l c) s ∙ words_barred h c small g b
      in (
        p.answer.number ∙ ap (λ (x : Outcome). (translation (answer_of x)).number) o ∙ its_number c.access.kind c.address,
        p.words ∙ ap (words_after c.access.kind c.address c.satp ws) o,
        p.answer.out ∙ ap (λ (x : Outcome). given_pair (translation (answer_of x)).values old) o ∙ ap (λ (x : ℕ). x ∷ 0 ∷ []) (at_fault c.access.kind c.address),
      )

  pub free : (d : Call) {ws'' old' ws''' new' : List ℕ} {q : ℕ} → Translates d ws'' old' q ws''' new' → Free c ws ws' r new d ws'' q new'
  unfolding words_step
  free d {ws''} {old'} p' h s s' ok g u small =
      let t = get_or new 0 0
      in let first : without_reads (answer_of (outcome_in (words_run new_words h) c)) ≡ done t =
      ap (λ (l : List ℕ). without_reads (answer_of (outcome_in l c))) (sym s)
      ∙ succeeded answer old (sym p.answer.number ∙ ok)
      ∙ ap (λ (l : List ℕ). done (get_or l 0 0)) (sym p.answer.out)
      in let next : ws'' ≡ words_step (words_run new_words h) (called c) = s' ∙ p.words ∙ ap (λ (l : List ℕ). words_step l (called c)) s
      in let x : answer_of (outcome_in ws'' d) ≡ At (in_frame (frame_of t) d.address) 0 = ap (λ (l : List ℕ). answer_of (outcome_in l d)) next ∙ words_free h c d t first g u small
      in (
        p'.answer.number ∙ ap (λ (y : Translation). (translation y).number) x,
        p'.answer.out ∙ ap (λ (y : Translation). given_pair (translation y).values old') x,
      )

-- ---- and of the contract: the words, what is asked, and two words for the answer

abbrev Contract : Type 1
Contract = Out 3 fn.translate.Kinds.ps fn.translate.Kinds.r

abbrev Args : Lfts 3 → Type 0
Args κs = Dens κs fn.translate.Kinds.ps

abbrev Exits : Lfts 3 → Type 0
Exits κs = AtExit (ended_of 3 fn.translate.Kinds.ps fn.translate.Kinds.r) κs

abbrev call : (κs : Lfts 3) → Args κs → Call
call κs a = call_asked a.1.0

-- the words after it, and the answer's two words
abbrev words : (κs : Lfts 3) → Exits κs → List ℕ
words κs e = e.0.now

abbrev out : (κs : Lfts 3) → Exits κs → List ℕ
out κs e = e.1.1.0.now

pub translate_fresh : (κs : Lfts 3) (a : Args κs) (r : ℕ) (e : Exits κs) → fn.translate.Reads.Post κs a r e → Fresh (call κs a) a.0.now r (out κs e)
translate_fresh κs a r e p = fresh (call κs a) p

pub translate_guarded : (κs : Lfts 3) (a : Args κs) (r : ℕ) (e : Exits κs) → fn.translate.Reads.Post κs a r e → Guarded (call κs a) a.0.now r (out κs e)
translate_guarded κs a r e p = guarded (call κs a) p

pub translate_barred : (κs : Lfts 3) (a : Args κs) (r : ℕ) (e : Exits κs) → fn.translate.Reads.Post κs a r e → Barred (call κs a) a.0.now (words κs e) r (out κs e)
translate_barred κs a r e p = turned (call κs a) p

pub translate_free : (κs : Lfts 3) (a : Args κs) (r : ℕ) (e : Exits κs) → fn.translate.Reads.Post κs a r e
    → (κs' : Lfts 3) (b : Args κs') (q : ℕ) (f : Exits κs') → fn.translate.Reads.Post κs' b q f
    → Free (call κs a) a.0.now (words κs e) r (out κs e) (call κs' b) b.0.now q (out κs' f)
translate_free κs a r e p κs' b q f p' = free (call κs a) p (call κs' b) p'
