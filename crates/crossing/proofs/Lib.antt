-- what comes home by several steps
mod InTurn
