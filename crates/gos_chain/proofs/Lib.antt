mod PacedLemmas
mod ToldLemmas
