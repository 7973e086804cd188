mod FreeIndexes
mod Greatest
